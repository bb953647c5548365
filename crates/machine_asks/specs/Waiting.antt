-- A machine waits for an operator.
use Rattle.std.specs.Prelude.{◌+◌, ℕ, Bool, List, [], ◌∷◌, Option, Some, None, Result, Ok, codes, length, nat_lt, not, take, ◌&&◌, if◌then◌else◌}
use Rattle.std.specs.Str.{bytes_eq}
use Rattle.tail_base.specs.declared.key.MachineKey.{MachineKey}
use Rattle.tail_base.specs.declared.key.NodeKey.{NodeKey}
use Rattle.tail_base.specs.Steps.{◌>>=◌, or_fault, refuse_if}
use Rattle.net_rows.specs.declared.limits.TheConstants.{COUNTER_LIMIT, PENDING_LIMIT}
use Rattle.net_rows.specs.Rows.{pending_of}
use Rattle.net_rows.specs.Shelf.{without}
use Rattle.net_rows.specs.declared.change.Change.{Change}
use Rattle.net_rows.specs.declared.change.Row.TheVariants as row
use Rattle.net_rows.specs.declared.pending.Pending.{Pending}
use Rattle.net_rows.specs.declared.rows.Rows.{Rows}
use Rattle.tailcfg.specs.declared.register.Register.{Register}
use Rattle.desk_state.specs.Decisions.{changing, only}
use Rattle.desk_state.specs.State.{State, is_overdue}
use Rattle.desk_state.specs.Texts.{row_text}
use Rattle.desk_state.specs.declared.decision.Decision.{Decision}
use Rattle.desk_state.specs.declared.refusal.Refusal.{Refusal}
use Rattle.desk_state.specs.declared.refusal.Refusal.TheVariants.{EntropyFault, Full}
use Rattle.desk_state.specs.declared.refusal.Scarce.TheVariants as scarce
use Rattle.desk_state.specs.Rows.{pending_gone}
use Rattle.machine_asks.specs.declared.answer.MachineAnswer.{MachineAnswer}
use Rattle.machine_asks.specs.declared.answer.MachineAnswer.TheVariants.{LoginAt}

-- the entry is this node key's, and its time hasn't passed
abbrev pub waits : State → NodeKey → Pending → Bool
waits s node p = bytes_eq p.node.0 node.0 && not (is_overdue s p)

-- the entries without the one that goes
abbrev pub pending_left : List Pending → Option Pending → List Pending
pending_left pending None = pending
pending_left pending (Some p) = without (λ r. r.id) pending p.id

-- there is room for an entry, once the old one is gone
abbrev pub has_place : Rows → Option Pending → Bool
has_place t old = nat_lt (length (pending_left t.pending old)) PENDING_LIMIT && nat_lt t.next.pending COUNTER_LIMIT

-- what the machine asks for, under a text of its own
abbrev pub new_entry : State → MachineKey → Register → List ℕ → Pending
new_entry s mk form words = record {
  id = s.rows.next.pending;
  text = row_text (codes "reg-") s.rows.next.pending (take 2 words);
  machine = mk;
  node = form.node;
  host = form.host;
  routes = form.routes;
  tags = form.tags;
  ephemeral = form.ephemeral;
  expiry = form.expiry;
  made = s.now;
}

-- the entry is put, and the old one goes
abbrev pub entry_change : Rows → Pending → Option Pending → Change
entry_change t p old = record {
  puts = row.Pending p ∷ [];
  gone = pending_gone old;
  next = record t.next { pending = t.next.pending + 1 };
}

-- the machine begins to wait under this entry
abbrev pub waiting_entered : Rows → Pending → Option Pending → Decision MachineAnswer
waiting_entered t p old = changing (entry_change t p old) (LoginAt p.text)

-- the entry stays, and its text is given again
abbrev pub waits_on : Pending → Decision MachineAnswer
waits_on p = only (LoginAt p.text)

-- a new entry takes the place of the old one
abbrev pub wait_anew : State → MachineKey → Register → Option (List ℕ) → Option Pending → Result (Decision MachineAnswer) Refusal
wait_anew s mk form words old = do
  room ← refuse_if (not (has_place s.rows old)) (Full scarce.Pending)
  drawn ← or_fault EntropyFault words
  Ok (waiting_entered s.rows (new_entry s mk form drawn) old)

-- under the entry that it has, if its node key and its time fit
abbrev pub wait_as : State → MachineKey → Register → Option (List ℕ) → Option Pending → Result (Decision MachineAnswer) Refusal
wait_as s mk form words None = wait_anew s mk form words None
wait_as s mk form words (Some p) = if waits s form.node p then Ok (waits_on p) else wait_anew s mk form words (Some p)

-- the machine waits on, or begins to wait
abbrev pub wait : State → MachineKey → Register → Option (List ℕ) → Result (Decision MachineAnswer) Refusal
wait s mk form words = wait_as s mk form words (pending_of s.rows.pending mk.0)
