use Rattle.policy_tests.proofs.FailureLemmas.{accepts_last}
use Rattle.policy_tests.proofs.laws.passed_tests_last.Goals as goal

pub returns : goal.returns
returns c = record { last = accepts_last }
