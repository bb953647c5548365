-- Rows that have outlived their time go.
use Rattle.std.specs.Prelude.{◌+◌, Bool, List, [], ◌++◌, map, filter, Result, Ok, length, ◌==◌, not, ◌&&◌, if◌then◌else◌}
use Rattle.net_rows.specs.declared.change.Change.{Change}
use Rattle.net_rows.specs.declared.change.RowKey.{RowKey}
use Rattle.net_rows.specs.declared.change.RowKey.TheVariants as gone
use Rattle.net_rows.specs.declared.machine.Machine.{Machine}
use Rattle.net_rows.specs.declared.pending.Pending.{Pending}
use Rattle.net_rows.specs.declared.rows.Rows.{Rows}
use Rattle.desk_state.specs.Decisions.{only, changing}
use Rattle.desk_state.specs.State.{State, is_live, is_overdue}
use Rattle.desk_state.specs.declared.decision.Decision.{Decision}
use Rattle.desk_state.specs.declared.refusal.Refusal.{Refusal}
use Rattle.admin_asks.specs.declared.operator_answer.OperatorAnswer.{OperatorAnswer}
use Rattle.admin_asks.specs.declared.operator_answer.OperatorAnswer.TheVariants as answer

-- an ephemeral machine that isn't live
abbrev pub is_lost : State → Machine → Bool
is_lost s m = m.ephemeral && not (is_live s m)

-- the ephemeral machines that aren't live
abbrev pub lost_machines : State → List Machine → List RowKey
lost_machines s machines = map (λ (m : Machine). gone.Machine m.id) (filter (is_lost s) machines)

-- the pending entries whose time has passed
abbrev pub overdue_entries : State → List Pending → List RowKey
overdue_entries s entries = map (λ (p : Pending). gone.Pending p.id) (filter (is_overdue s) entries)

-- these machines go, and these pending entries
abbrev pub sweep_change : Rows → List RowKey → List RowKey → Change
sweep_change t machines pending = record { puts = []; gone = machines ++ pending; next = t.next }

-- where none goes, no row changes
abbrev pub sweep_decision : Rows → List RowKey → List RowKey → Decision OperatorAnswer
sweep_decision t machines pending =
    if length machines + length pending == 0 then only (answer.Swept 0 0)
    else changing (sweep_change t machines pending) (answer.Swept (length machines) (length pending))

-- ephemeral machines that aren't live go, and pending entries whose time has passed
abbrev pub sweep : State → Result (Decision OperatorAnswer) Refusal
sweep s = Ok (sweep_decision s.rows (lost_machines s s.rows.machines) (overdue_entries s s.rows.pending))
