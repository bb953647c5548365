-- What an ask on the policy results in.
use Rattle.std.specs.Prelude.{Result, Ok}
use Rattle.desk_state.specs.Decisions.{only}
use Rattle.desk_state.specs.State.{State}
use Rattle.desk_state.specs.declared.decision.Decision.{Decision}
use Rattle.desk_state.specs.declared.refusal.Refusal.{Refusal}
use Rattle.policy_asks.specs.Saving.{save}
use Rattle.policy_asks.specs.declared.answer.PolicyAnswer.{PolicyAnswer}
use Rattle.policy_asks.specs.declared.answer.PolicyAnswer.TheVariants as answer
use Rattle.policy_asks.specs.declared.ask.PolicyAsk.{PolicyAsk}
use Rattle.policy_asks.specs.declared.ask.PolicyAsk.TheVariants as ask

-- in a state that is at its moment
abbrev pub policy_decision : State → PolicyAsk → Result (Decision PolicyAnswer) Refusal
policy_decision s ask.Policy = Ok (only (answer.PolicyText s.rows.policy))
policy_decision s (ask.SavePolicy text) = save s text
