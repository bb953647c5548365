use Rattle.std.proofs.Common.{◌∙◌, List, [], subst}
use Rattle.policy_rows.specs.declared.rule.Rule.{Rule}
use Rattle.policy_sites.specs.Reach.{AreSoundRules}
use Rattle.policy_eval.proofs.FitLemmas.{expansion_fits}
use Rattle.policy_eval.proofs.expanded.Expanded.of.Goals as goal

pub invariant_of-result : goal.invariant_of-result
invariant_of-result c = record {
  distinct = c.in_ok-sites.ensures.distinct;
  apart = c.in_ok-sites.ensures.apart;
  sound = subst (λ (rs : List Rule). AreSoundRules rs) c.as_slice.ensures.value c.look_at_rules.ensures.sound;
  matched = expansion_fits c.in_ok-groups.groups c.in_ok-rules.rules c.as_slice-4.result.now c.in_ok-sites.sites c.new-found.result c.sets_of_rules.new.covers c.into_list-covers.result c.in_ok-sets.sets
      (c.new-found.ensures.value ∙ (λ i. record { groups = c.as_slice-2.ensures.value i; sites = c.as_slice-3.ensures.value i; list = [] })) c.in_ok-sets.ensures.grown c.as_slice-4.ensures.value
      c.into_list-covers.ensures.value c.in_ok-sets.ensures.matched;
}
