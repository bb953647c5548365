-- A machine tells of itself.
use Rattle.std.specs.Prelude.{ℕ, List, Option, Some, None, Result, Ok, if◌then◌else◌}
use Rattle.tail_base.specs.declared.key.MachineKey.{MachineKey}
use Rattle.tail_base.specs.declared.key.NodeKey.{NodeKey}
use Rattle.tail_base.specs.Steps.{◌>>=◌}
use Rattle.net_addr.specs.Bits.{Block}
use Rattle.net_rows.specs.declared.machine.Machine.{Machine}
use Rattle.tailcfg.specs.declared.host_update.HostUpdate.{HostUpdate}
use Rattle.tailcfg.specs.declared.update.Update.{Update}
use Rattle.desk_state.specs.State.{State}
use Rattle.desk_state.specs.Decisions.{changing, only}
use Rattle.desk_state.specs.declared.decision.Decision.{Decision}
use Rattle.desk_state.specs.declared.refusal.Refusal.{Refusal}
use Rattle.desk_state.specs.Rows.{row_replaced}
use Rattle.desk_state.specs.Same.{same_told}
use Rattle.machine_asks.specs.Asking.{asking}
use Rattle.machine_asks.specs.declared.answer.MachineAnswer.{MachineAnswer}
use Rattle.machine_asks.specs.declared.answer.MachineAnswer.TheVariants.{Updated}

-- what is given, or what there was
abbrev pub told_or : {A : Type 0} → Option A → A → A
told_or None was = was
told_or (Some new) was = new

-- the host text, if it is told of
abbrev pub told_host : List ℕ → Option HostUpdate → List ℕ
told_host was None = was
told_host was (Some h) = told_or h.name was

-- the DERP region, if it is told of
abbrev pub told_derp : ℕ → Option HostUpdate → ℕ
told_derp was None = was
told_derp was (Some h) = told_or h.derp was

-- the advertised routes, where the host is told of
abbrev pub told_routes : List Block → Option HostUpdate → List Block
told_routes was None = was
told_routes was (Some h) = h.routes

-- the row of a machine that told this of itself
abbrev pub told_row : Machine → Update → Machine
told_row m u = record m {
  endpoints = u.endpoints;
  disco = told_or u.disco m.disco;
  host = told_host m.host u.host;
  derp = told_derp m.derp u.host;
  routes = told_routes m.routes u.host;
}

-- if the row stays as it was, none changes
abbrev pub updated : State → Machine → Machine → Decision MachineAnswer
updated s m r = if same_told m r then only Updated else changing (row_replaced s.rows r) Updated

-- the live machine of these keys tells of itself
abbrev pub update : State → MachineKey → NodeKey → Update → Result (Decision MachineAnswer) Refusal
update s mk node u = asking s mk node >>= (λ m. Ok (updated s m (told_row m u)))
