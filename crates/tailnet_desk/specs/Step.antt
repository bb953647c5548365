-- One event is one step of the Tailnet machine.
use Rattle.std.specs.Prelude.{ℕ, ℤ, List, Option, Some, None, Result, Ok, Err, is_none}
use Rattle.std.specs.Option.{option_or}
use Rattle.net_rows.specs.declared.change.Change.{Change}
use Rattle.policy_rows.specs.declared.policy.Policy.{Policy}
use Rattle.tail_base.specs.Steps.{◌>>=◌}
use Rattle.desk_state.specs.Decisions.{answered, rows_after}
use Rattle.desk_state.specs.State.{State, at_moment, all_ended, all_offline, forgotten, without_all}
use Rattle.desk_state.specs.declared.decision.Decision.{Decision}
use Rattle.desk_state.specs.declared.presence.MachinePresence.{MachinePresence}
use Rattle.desk_state.specs.declared.refusal.Refusal.{Refusal}
use Rattle.desk_state.specs.declared.session.Attachment.{Attachment}
use Rattle.desk_state.specs.declared.session.Session.{Session}
use Rattle.admin_asks.specs.Decision as operator
use Rattle.machine_asks.specs.Attach.{attach, attached_state}
use Rattle.machine_asks.specs.Detach.{detach, detached_state}
use Rattle.machine_asks.specs.Drain.{drain, drained_state}
use Rattle.machine_asks.specs.declared.attaching.AttachDecision.{AttachDecision}
use Rattle.machine_asks.specs.declared.draining.DrainDecision.{DrainDecision}
use Rattle.machine_asks.specs.Decision as machine
use Rattle.machine_asks.specs.Seed.{seed}
use Rattle.policy_asks.specs.Decision.{policy_decision}
use Rattle.tailnet_desk.specs.declared.ask.Ask.{Ask}
use Rattle.tailnet_desk.specs.declared.ask.Ask.TheVariants as ask
use Rattle.tailnet_desk.specs.declared.entry.Event.{Event}
use Rattle.tailnet_desk.specs.declared.entry.Event.TheVariants as event
use Rattle.tailnet_desk.specs.declared.reply.Answer.{Answer}
use Rattle.tailnet_desk.specs.declared.reply.Answer.TheVariants as answer
use Rattle.tailnet_desk.specs.declared.reply.Reply.{Reply}
use Rattle.tailnet_desk.specs.declared.reply.Drained.{Drained}
use Rattle.tailnet_desk.specs.declared.reply.Drained.TheVariants as drained
use Rattle.tailnet_desk.specs.declared.reply.Loss.TheVariants.{NoMemory}
use Rattle.tailnet_desk.specs.declared.reply.Reply.TheVariants.{Done, Attached, Frames, Ended, Detached, Refused, Lost}

-- the outcome of an ask, in a state that is at its moment, with the random words that were drawn
abbrev pub decision : State → Ask → Option (List ℕ) → Result (Decision Answer) Refusal
decision s (ask.Seed text) words = seed s text >>= λ d. Ok (answered (λ nothing. answer.Seeded) d)
decision s (ask.Machine x) words = machine.decision s x words >>= λ d. Ok (answered answer.Machine d)
decision s (ask.Operator x) words = operator.decision s x words >>= λ d. Ok (answered answer.Operator d)
decision s (ask.Policy x) words = policy_decision s x >>= λ d. Ok (answered answer.Policy d)

-- what is kept by the id of a machine, without the machines whose rows go
abbrev pub left_after : {T : Type 0} → (T → ℕ) → List T → Option Change → List T
left_after id xs None = xs
left_after id xs (Some change) = forgotten id xs change.gone

-- what is left of sessions: those of machines whose rows go end, and those of `ended` and of `offline`
abbrev pub sessions_after : {T : Type 0} → (T → ℕ) → List T → Option Change → List ℕ → List ℕ → List T
sessions_after id xs change ended offline = without_all id (without_all id (left_after id xs change) ended) offline

-- the state after a decision: its change of rows, and its policy in force, if it has one; then those of `ended` are
-- offline if they were online, and those of `offline` in any case, and their sessions end
abbrev pub settled : State → Option Change → Option Policy → List ℕ → List ℕ → State
settled s change policy ended offline = record s {
  rows = rows_after s.rows change;
  policy = option_or policy s.policy;
  presence = all_offline s.now (all_ended s.now (left_after (λ (p : MachinePresence). p.id) s.presence change) ended) offline;
  sessions = sessions_after (λ (x : Session). x.id) s.sessions change ended offline;
  attached = sessions_after (λ (a : Attachment). a.id) s.attached change ended offline;
}

-- a state and a reply
pub record Turn : Type 0 where
  pub state : State
  pub reply : Reply

-- a refusal leaves the state
abbrev pub outcome : State → Result (Decision Answer) Refusal → Turn
outcome s (Err refusal) = record { state = s; reply = Refused refusal }
outcome s (Ok d) = record { state = settled s d.change d.policy d.ended d.offline; reply = Done d.answer }

-- a poll that attaches is told of its session
abbrev pub attached_reply : AttachDecision → Reply
attached_reply d = Attached d.handle d.seq (is_none d.begun) d.may_wait

abbrev pub attach_turn : State → Result AttachDecision Refusal → Turn
attach_turn s (Err refusal) = record { state = s; reply = Refused refusal }
attach_turn s (Ok d) = record { state = attached_state s d; reply = attached_reply d }

abbrev pub drain_turn : State → Option DrainDecision → Turn
drain_turn s None = record { state = s; reply = Ended }
drain_turn s (Some d) = record { state = drained_state s d; reply = Frames d.responses }

abbrev pub detach_turn : State → Option ℕ → Turn
detach_turn s id = record { state = detached_state s id; reply = Detached }

-- what a drain answers, as a reply
abbrev pub drain_reply : Drained → Reply
drain_reply (drained.Frames responses) = Frames responses
drain_reply drained.Ended = Ended
drain_reply drained.NoMemory = Lost NoMemory

-- the moment of an event
abbrev pub moment_of : Event → ℤ
moment_of (event.Ask x moment words) = moment
moment_of (event.Attach mk node handle seq moment words) = moment
moment_of (event.Drain mk handle moment) = moment
moment_of (event.Detach mk handle moment) = moment

-- the outcome of an event, in a state that is at its moment
abbrev pub turn_of : State → Event → Turn
turn_of s (event.Ask x moment words) = outcome s (decision s x words)
turn_of s (event.Attach mk node handle seq moment words) = attach_turn s (attach s mk node handle seq words)
turn_of s (event.Drain mk handle moment) = drain_turn s (drain s mk handle)
turn_of s (event.Detach mk handle moment) = detach_turn s (detach s mk handle)

-- the outcome of an event: first its moment comes
abbrev pub step : State → Event → Turn
step s e = turn_of (at_moment s (moment_of e)) e
