use Rattle.policy_sites.proofs.ReachLemmas.{reach_of_flags}
use Rattle.policy_sites.proofs.laws.a_reach_is_by_flags.Goals as goal

pub returns : goal.returns
returns c = record { same = reach_of_flags }
