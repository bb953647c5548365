use Rattle.admin_asks.proofs.DecisionLaws.{operator_decision_sound}
use Rattle.admin_asks.proofs.laws.operator_decisions_are_sound.Goals as goal

pub returns : goal.returns
returns c = record { sound = operator_decision_sound }
