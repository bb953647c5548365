use Rattle.machine_asks.proofs.DecisionLaws.{machine_decision_sound}
use Rattle.machine_asks.proofs.laws.machine_decisions_are_sound.Goals as goal

pub returns : goal.returns
returns c = record { decided = machine_decision_sound }
