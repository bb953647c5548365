use Rattle.tailnet_desk.proofs.Decisions.{decision_in_force}
use Rattle.tailnet_desk.proofs.laws.decisions_keep_the_policy.Goals as goal

pub returns : goal.returns
returns c = record { policy = decision_in_force }
