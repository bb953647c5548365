use Rattle.policy_sites.specs.Grants.{groups_of, rules_of}
use Rattle.filter_compile.proofs.RuleLemmas.{filter_admits}
use Rattle.filter_compile.proofs.laws.a_filter_admits_what_is_granted.Goals as goal

pub returns : goal.returns
returns c = record { by_rules = filter_admits; by_policy = λ policy. filter_admits (groups_of policy) (rules_of policy) }
