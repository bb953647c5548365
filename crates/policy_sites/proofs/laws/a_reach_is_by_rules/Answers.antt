use Rattle.policy_sites.proofs.ReachLemmas.{reach_is}
use Rattle.policy_sites.proofs.laws.a_reach_is_by_rules.Goals as goal

pub returns : goal.returns
returns c = record { same = reach_is }
