use Rattle.policy_asks.proofs.SavingLaws.{policy_decision_sound}
use Rattle.policy_asks.proofs.laws.policy_decisions_are_sound.Goals as goal

pub returns : goal.returns
returns c = record { sound = policy_decision_sound }
