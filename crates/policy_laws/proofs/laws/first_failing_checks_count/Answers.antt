use Rattle.policy_laws.proofs.TextCheckLemmas.{first_check, policy_where}
use Rattle.policy_laws.proofs.laws.first_failing_checks_count.Goals as goal

pub returns : goal.returns
returns c = record { first = first_check; policy = policy_where }
