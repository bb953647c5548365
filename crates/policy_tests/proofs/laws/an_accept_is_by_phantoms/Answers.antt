use Rattle.policy_tests.proofs.AcceptLemmas.{by_phantoms}
use Rattle.policy_tests.proofs.laws.an_accept_is_by_phantoms.Goals as goal

pub returns : goal.returns
returns c = record { same = by_phantoms }
