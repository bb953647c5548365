-- A decision is carried out, or not, and so is an attach.
use Rattle.std.specs.Prelude.{◌≡◌, ◌⊎◌, ℕ, List, None, Some, Option, Result, Ok, Err}
use Rattle.io_edge.specs.Edge.{Rose}
use Rattle.io_edge.specs.declared.faults.EdgeFault.{EdgeFault}
use Rattle.io_edge.specs.declared.faults.EdgeFault.TheVariants as edge
use Rattle.net_rows.specs.declared.change.Change.{Change}
use Rattle.policy_rows.specs.declared.policy.Policy.{Policy}
use Rattle.row_keeper.specs.Calls.{one_more}
use Rattle.desk_state.specs.State.{State}
use Rattle.desk_state.specs.declared.decision.Decision.{Decision}
use Rattle.tailnet_desk.specs.Seated.{Keeping}
use Rattle.machine_asks.specs.Attach.{attached_state}
use Rattle.machine_asks.specs.declared.attaching.AttachDecision.{AttachDecision}
use Rattle.tailnet_desk.specs.Step.{attached_reply, settled}
use Rattle.tailnet_desk.specs.declared.reply.Answer.{Answer}
use Rattle.tailnet_desk.specs.declared.reply.Loss.TheVariants.{NoMemory, KeeperFault}
use Rattle.tailnet_desk.specs.declared.reply.Reply.{Reply}
use Rattle.tailnet_desk.specs.declared.reply.Reply.TheVariants.{Done, Attached, Frames, Ended, Detached, Refused, Lost}

-- a change is committed once, and without one the keeper stays as it was
abbrev pub Committed : Option Change → Keeping → Keeping → Type 0
Committed None k l = l ≡ k
Committed (Some change) k l = l.calls ≡ one_more k.calls

-- memory ran out before a commit or in it
abbrev pub Perhaps : Option Change → Keeping → Keeping → Type 0
Perhaps None k l = l ≡ k
Perhaps (Some change) k l = (l.calls ≡ k.calls) ⊎ (l.calls ≡ one_more k.calls)

-- the keeper failed in a commit
abbrev pub Failed : Option Change → Keeping → Keeping → Type 0
Failed None k l = ⊥
Failed (Some change) k l = (l.calls ≡ one_more k.calls) × Rose k.faults l.faults

-- the state after the decision; or the state as it was
abbrev pub Kept : State → Option Change → Option Policy → List ℕ → List ℕ → Result (Unit {0}) EdgeFault → State → Keeping → Keeping → Type 0
Kept s change policy ended offline (Ok done) t k l = (t ≡ settled s change policy ended offline) × Committed change k l
Kept s change policy ended offline (Err edge.NoMemory) t k l = (t ≡ s) × Perhaps change k l
Kept s change policy ended offline (Err edge.Failed) t k l = (t ≡ s) × Failed change k l

-- what is replied, if this answer was to be given
abbrev pub reply_of : Result (Unit {0}) EdgeFault → Answer → Reply
reply_of (Ok done) answer = Done answer
reply_of (Err edge.NoMemory) answer = Lost NoMemory
reply_of (Err edge.Failed) answer = Lost KeeperFault

-- the same by what is replied
abbrev pub Carried : State → Decision Answer → Reply → State → Keeping → Keeping → Type 0
Carried s d (Done answer) t k l = (answer ≡ d.answer) × (t ≡ settled s d.change d.policy d.ended d.offline) × Committed d.change k l
Carried s d (Attached handle seq resumed may_wait) t k l = ⊥
Carried s d (Frames responses) t k l = ⊥
Carried s d Ended t k l = ⊥
Carried s d Detached t k l = ⊥
Carried s d (Refused refusal) t k l = ⊥
Carried s d (Lost NoMemory) t k l = (t ≡ s) × Perhaps d.change k l
Carried s d (Lost KeeperFault) t k l = (t ≡ s) × Failed d.change k l

-- an attach is carried out, or memory runs out, by what is replied
abbrev pub AttachCarried : State → AttachDecision → Reply → State → Type 0
AttachCarried s d (Done answer) t = ⊥
AttachCarried s d (Attached handle seq resumed may_wait) t = (Attached handle seq resumed may_wait ≡ attached_reply d) × (t ≡ attached_state s d)
AttachCarried s d (Frames responses) t = ⊥
AttachCarried s d Ended t = ⊥
AttachCarried s d Detached t = ⊥
AttachCarried s d (Refused refusal) t = ⊥
AttachCarried s d (Lost NoMemory) t = t ≡ s
AttachCarried s d (Lost KeeperFault) t = ⊥
