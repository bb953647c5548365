use Rattle.policy_sites.proofs.IdLemmas.{found_to_rise}
use Rattle.policy_sites.proofs.id_list.IdList.of.Goals as goal

pub invariant_of-result : goal.invariant_of-result
invariant_of-result c = found_to_rise c.args.ids.now c.is_sorted.result c.is_sorted.ensures.cases
