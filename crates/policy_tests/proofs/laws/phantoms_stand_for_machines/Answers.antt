use Rattle.policy_sites.specs.Grants.{groups_of, rules_of}
use Rattle.policy_tests.proofs.PhantomLemmas.{dest_stands, source_stands}
use Rattle.policy_tests.proofs.laws.phantoms_stand_for_machines.Goals as goal

pub returns : goal.returns
returns c = record {
  sources = λ policy p s d proto port stands g. source_stands (groups_of policy) (rules_of policy) p s d proto port stands g;
  dests = λ policy s p d proto port stands g. dest_stands (groups_of policy) (rules_of policy) s p d proto port stands g;
}
