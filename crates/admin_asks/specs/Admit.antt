-- An operator admits a machine that waits.
use Rattle.std.specs.Prelude.{ℕ, List, [], ◌∷◌, Some, None, Result, Ok}
use Rattle.std.specs.Cmp.Lexicographic.{slice_cmp}
use Rattle.std.specs.Ordering.{nat_cmp}
use Rattle.tail_base.specs.Sorted.{sorted_once}
use Rattle.tail_base.specs.Steps.{◌>>=◌, or_fault, refuse_if}
use Rattle.net_rows.specs.Rows.{machine_of, pending_with}
use Rattle.net_rows.specs.declared.machine.Machine.{Machine}
use Rattle.net_rows.specs.declared.pending.Pending.{Pending}
use Rattle.desk_state.specs.Lines.{offline_line}
use Rattle.desk_state.specs.State.{State, is_overdue}
use Rattle.desk_state.specs.Tags.{tags_granted}
use Rattle.desk_state.specs.Users.{user_named}
use Rattle.desk_state.specs.declared.decision.Decision.{Decision}
use Rattle.desk_state.specs.declared.refusal.Refusal.{Refusal}
use Rattle.desk_state.specs.declared.refusal.Refusal.TheVariants.{NodeKeyTaken, PendingUnknown}
use Rattle.desk_state.specs.Rows.{expiry_of, is_taken, machine_row, place_for, row_change}
use Rattle.desk_state.specs.declared.entrant.Entrant.{Entrant}
use Rattle.admin_asks.specs.declared.operator_answer.OperatorAnswer.{OperatorAnswer}
use Rattle.admin_asks.specs.declared.operator_answer.OperatorAnswer.TheVariants as answer

-- the entry of that text whose time hasn't passed
abbrev pub timely_entry : State → List ℕ → Result Pending Refusal
timely_entry s text = do
  p ← or_fault PendingUnknown (pending_with s.rows.pending text)
  timely ← refuse_if (is_overdue s p) PendingUnknown
  Ok p

-- who enters by this entry, for this user
abbrev pub entrant_of_entry : State → Pending → ℕ → Entrant
entrant_of_entry s p user = record {
  node = p.node;
  user = user;
  host = p.host;
  routes = p.routes;
  tags = sorted_once (slice_cmp nat_cmp) p.tags;
  ephemeral = p.ephemeral;
  expiry = expiry_of s p.expiry (sorted_once (slice_cmp nat_cmp) p.tags);
}

-- the machine has this row from now on and is offline, this is the next id, and the entry goes
abbrev pub admission : State → Pending → Machine → ℕ → Decision OperatorAnswer
admission s p m next = record {
  change = Some (row_change s.rows m next None (Some p));
  policy = None;
  offline = m.id ∷ [];
  ended = [];
  answer = answer.Node (offline_line s m);
}

-- the machine that waits under that text enters for the user of that login
abbrev pub admit : State → List ℕ → List ℕ → Result (Decision OperatorAnswer) Refusal
admit s pending login = do
  p ← timely_entry s pending
  user ← user_named s.rows login
  other ← refuse_if (is_taken s.rows.machines p.machine p.node) NodeKeyTaken
  granted ← tags_granted s user.id p.tags
  place ← place_for s p.host (machine_of s.rows.machines p.machine.0)
  Ok (admission s p (machine_row p.machine (entrant_of_entry s p user.id) place) place.next)
