use Rattle.policy_asks.proofs.SavingLaws.{decision_kept}
use Rattle.policy_asks.proofs.laws.saved_policies_are_kept.Goals as goal

pub returns : goal.returns
returns c = record { kept = decision_kept }
