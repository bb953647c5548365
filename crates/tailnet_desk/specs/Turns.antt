-- One turn at a desk: a call, and what its keeper did.
use Rattle.std.specs.Prelude.{◌≡◌, ◌⊎◌, ℕ}
use Rattle.io_edge.specs.Edge.{IsWhereTold}
use Rattle.row_keeper.specs.Before.{ToldBefore}
use Rattle.row_keeper.specs.Calls.{one_more}
use Rattle.desk_state.specs.State.{State}
use Rattle.tailnet_desk.specs.History.{ChangesRows, IsCall}
use Rattle.tailnet_desk.specs.Seated.{Point}
use Rattle.tailnet_desk.specs.Step.{step}
use Rattle.tailnet_desk.specs.declared.entry.Event.{Event}
use Rattle.tailnet_desk.specs.declared.reply.Loss.TheVariants.{NoMemory, KeeperFault}
use Rattle.tailnet_desk.specs.declared.reply.Reply.{Reply}
use Rattle.tailnet_desk.specs.declared.reply.Reply.TheVariants.{Done, Attached, Frames, Ended, Detached, Refused, Lost}

-- how often the keeper was called: once where rows change, at most once where memory ran out, else not at all
abbrev pub AreCalls : State → Event → Reply → ℕ → ℕ → Type 0
AreCalls s e (Done answer) before after = ChangesRows s e → after ≡ one_more before
AreCalls s e (Attached handle seq resumed may_wait) before after = after ≡ before
AreCalls s e (Frames responses) before after = after ≡ before
AreCalls s e Ended before after = after ≡ before
AreCalls s e Detached before after = after ≡ before
AreCalls s e (Refused refusal) before after = after ≡ before
AreCalls s e (Lost NoMemory) before after = (after ≡ before) ⊎ (after ≡ one_more before)
AreCalls s e (Lost KeeperFault) before after = after ≡ one_more before

-- The call is one of the Tailnet machine, and the keeper has the state's rows where it tells them; where it tells any
-- it told rows before. Where no row changes it stays as it was.
pub record IsTurn (p : Point) (e : Event) (reply : Reply) (q : Point) : Type 0 where
  pub call : IsCall p.state p.keeping.faults e reply q.state q.keeping.faults
  pub kept : IsWhereTold q.state.rows q.keeping.told
  pub before : ToldBefore p.keeping.told q.keeping.told
  pub calls : AreCalls p.state e reply p.keeping.calls q.keeping.calls
  pub idle : (step p.state e).state.rows ≡ p.state.rows → q.keeping ≡ p.keeping

-- what an attach is replied
abbrev pub IsAttachReply : Reply → Type 0
IsAttachReply (Done answer) = ⊥
IsAttachReply (Attached handle seq resumed may_wait) = Unit {0}
IsAttachReply (Frames responses) = ⊥
IsAttachReply Ended = ⊥
IsAttachReply Detached = ⊥
IsAttachReply (Refused refusal) = Unit {0}
IsAttachReply (Lost loss) = Unit {0}

-- what a drain is replied
abbrev pub IsDrainReply : Reply → Type 0
IsDrainReply (Done answer) = ⊥
IsDrainReply (Attached handle seq resumed may_wait) = ⊥
IsDrainReply (Frames responses) = Unit {0}
IsDrainReply Ended = Unit {0}
IsDrainReply Detached = ⊥
IsDrainReply (Refused refusal) = ⊥
IsDrainReply (Lost NoMemory) = Unit {0}
IsDrainReply (Lost KeeperFault) = ⊥
