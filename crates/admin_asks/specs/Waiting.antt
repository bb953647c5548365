-- Operators list the machines that wait to be admitted.
use Rattle.std.specs.Prelude.{Result, Ok}
use Rattle.desk_state.specs.Decisions.{only}
use Rattle.desk_state.specs.State.{State}
use Rattle.desk_state.specs.declared.decision.Decision.{Decision}
use Rattle.desk_state.specs.declared.refusal.Refusal.{Refusal}
use Rattle.admin_asks.specs.declared.operator_answer.OperatorAnswer.{OperatorAnswer}
use Rattle.admin_asks.specs.declared.operator_answer.OperatorAnswer.TheVariants as answer

-- also those whose time has passed
abbrev pub waiting : State → Result (Decision OperatorAnswer) Refusal
waiting s = Ok (only (answer.Waiting s.rows.pending))
