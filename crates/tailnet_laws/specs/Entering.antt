-- By which asks a machine gets a row.
use Rattle.std.specs.Prelude.{◌≡◌, ◌<◌, ℕ, List, Some, length}
use Rattle.tail_base.specs.declared.key.MachineKey.{MachineKey}
use Rattle.net_rows.specs.Rows.{pending_with}
use Rattle.net_rows.specs.declared.pending.Pending.{Pending}
use Rattle.desk_state.specs.State.{State}
use Rattle.admin_asks.specs.declared.operator_ask.OperatorAsk.{OperatorAsk}
use Rattle.admin_asks.specs.declared.operator_ask.OperatorAsk.TheVariants as operator
use Rattle.machine_asks.specs.declared.ask.MachineAsk.{MachineAsk}
use Rattle.machine_asks.specs.declared.ask.MachineAsk.TheVariants as machine

-- the machine of this key registers, and hands in a pre-auth key
abbrev pub IsKeyed : MachineAsk → MachineKey → Type 0
IsKeyed (machine.Register key form) mk = (key ≡ mk) × (0 < length form.auth)
IsKeyed (machine.Update key node told) mk = ⊥
IsKeyed (machine.OneMap key node told) mk = ⊥

-- the entry of that text is the machine's
abbrev pub IsEntryOf : State → List ℕ → MachineKey → Type 0
IsEntryOf s text mk = (entry : Pending) × (pending_with s.rows.pending text ≡ Some entry) × (entry.machine ≡ mk)

-- an operator admits the machine of this key
abbrev pub IsAdmission : State → OperatorAsk → MachineKey → Type 0
IsAdmission s (operator.Admit text login) mk = IsEntryOf s text mk
IsAdmission s (operator.AddUser name) mk = ⊥
IsAdmission s operator.Users mk = ⊥
IsAdmission s (operator.DropUser login) mk = ⊥
IsAdmission s (operator.AddKey form) mk = ⊥
IsAdmission s operator.Keys mk = ⊥
IsAdmission s (operator.ExpireKey id) mk = ⊥
IsAdmission s operator.Nodes mk = ⊥
IsAdmission s operator.Waiting mk = ⊥
IsAdmission s (operator.ExpireNode id expiry) mk = ⊥
IsAdmission s (operator.Rename id name) mk = ⊥
IsAdmission s (operator.SetTags id tags) mk = ⊥
IsAdmission s (operator.SetRoutes id routes) mk = ⊥
IsAdmission s (operator.DropNode id) mk = ⊥
IsAdmission s operator.Extras mk = ⊥
IsAdmission s (operator.SetExtras given) mk = ⊥
IsAdmission s operator.Sweep mk = ⊥
