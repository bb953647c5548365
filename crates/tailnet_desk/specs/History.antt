-- Legal histories.
use Rattle.std.specs.Prelude.{◌≡◌, ◌≢◌, ◌≤◌, ℕ, List, [], ◌∷◌}
use Rattle.io_edge.specs.Edge.{Rose}
use Rattle.desk_state.specs.State.{State, at_moment}
use Rattle.tailnet_desk.specs.Asks.{IsShortEvent}
use Rattle.tailnet_desk.specs.Step.{step, moment_of}
use Rattle.tailnet_desk.specs.declared.entry.Event.{Event}
use Rattle.tailnet_desk.specs.declared.entry.Entry.{Entry}
use Rattle.tailnet_desk.specs.declared.reply.Loss.TheVariants.{NoMemory, KeeperFault}
use Rattle.tailnet_desk.specs.declared.reply.Reply.{Reply}
use Rattle.tailnet_desk.specs.declared.reply.Reply.TheVariants.{Done, Attached, Frames, Ended, Detached, Refused, Lost}

-- the step of an event changes rows
abbrev pub ChangesRows : State → Event → Type 0
ChangesRows s e = (step s e).state.rows ≢ s.rows

-- The state after a reply: what was not carried out leaves all but the time.
abbrev pub state_after : State → Event → Reply → State
state_after s e (Done answer) = (step s e).state
state_after s e (Attached handle seq resumed may_wait) = (step s e).state
state_after s e (Frames responses) = (step s e).state
state_after s e Ended = (step s e).state
state_after s e Detached = (step s e).state
state_after s e (Refused refusal) = (step s e).state
state_after s e (Lost loss) = at_moment s (moment_of e)

-- The reply is the step's, or out of memory, or a fault of the keeper if rows change and its count rose.
abbrev pub IsReply : State → Event → ℕ → ℕ → Reply → Type 0
IsReply s e before after (Done answer) = Done answer ≡ (step s e).reply
IsReply s e before after (Attached handle seq resumed may_wait) = Attached handle seq resumed may_wait ≡ (step s e).reply
IsReply s e before after (Frames responses) = Frames responses ≡ (step s e).reply
IsReply s e before after Ended = Ended ≡ (step s e).reply
IsReply s e before after Detached = Detached ≡ (step s e).reply
IsReply s e before after (Refused refusal) = Refused refusal ≡ (step s e).reply
IsReply s e before after (Lost NoMemory) = Unit {0}
IsReply s e before after (Lost KeeperFault) = ChangesRows s e × Rose before after

-- One call: from a state and a count to a state and a count.
pub record IsCall (s : State) (before : ℕ) (e : Event) (reply : Reply) (t : State) (after : ℕ) : Type 0 where
  pub short : IsShortEvent e
  pub reply_is : IsReply s e before after reply
  pub state : t ≡ state_after s e reply
  pub later : before ≤ after

-- Each entry starts at the state and the count where the one before ended, the first at these.
abbrev pub Legal : State → ℕ → List Entry → Type 0
Legal s count [] = Unit {0}
Legal s count (e ∷ es) =
    (e.before ≡ count) × IsShortEvent e.event × IsReply s e.event count e.after e.reply × (count ≤ e.after)
    × Legal (state_after s e.event e.reply) e.after es

-- the state at a list's end
abbrev pub replay : State → List Entry → State
replay s [] = s
replay s (e ∷ es) = replay (state_after s e.event e.reply) es

-- the count at a list's end
abbrev pub count_at_end : ℕ → List Entry → ℕ
count_at_end count [] = count
count_at_end count (e ∷ es) = count_at_end e.after es
