use Rattle.std.proofs.Common.{◌≡◌, ◌∙◌, Bool, List, ap}
use Rattle.std.specs.Prelude.{map}
use Rattle.std.specs.List.{list_any}
use Rattle.policy_sites.specs.ByRule.{covers_served, covers_site}
use Rattle.policy_eval.specs.Covering.{flag_at}
use Rattle.policy_eval.specs.Expansion.{Expansion}
use Rattle.policy_eval.specs.declared.rule_sets.RuleSets.{RuleSets}
use Rattle.policy_eval.proofs.FitLemmas.{fit_moved}
use Rattle.policy_eval.proofs.FlagLemmas.{sends_of_flags, takes_of_flags, tried_of}
use Rattle.policy_eval.proofs.expanded.Expanded.flags_of.Goals as goal

pub returns : goal.returns
returns c =
    let x = c.args.self.now in
    let site = c.args.site.now in
    let covers = c.self.inside.covers in
    let sets = c.as_slice-2.result.now in
    let fit = fit_moved _ x covers _ sets c.self.invariant c.self.view_is c.as_slice-2.ensures.value in
    let groups = c.as_slice.ensures.value ∙ ap (λ (e : Expansion). e.groups) c.self.view_is in
    let own : c.as_slice-own.result.now ≡ tried_of (covers_site x.groups site) covers =
    c.as_slice-own.ensures.value ∙ (c.in_ok-found.ensures.own ∙ (λ i. tried_of (covers_site (groups i) site) (c.as_slice-covers.ensures.value i))) in
    let served : c.as_slice-served.result.now ≡ tried_of (covers_served x.groups site) covers =
    c.as_slice-served.ensures.value ∙ (c.in_ok-found.ensures.served ∙ (λ i. tried_of (covers_served (groups i) site) (c.as_slice-covers.ensures.value i))) in
    record {
      sends = c.in_ok-flags.ensures.sends ∙ (ap (λ (flags : List Bool). map (λ (of_rule : RuleSets). list_any (flag_at flags) of_rule.source_places) sets) own
          ∙ sends_of_flags x.groups x.sites covers x.rules sets site fit.matched);
      takes = c.in_ok-flags.ensures.takes ∙ (ap (λ (flags : List Bool). map (λ (of_rule : RuleSets). list_any (flag_at flags) of_rule.dests) sets) served
          ∙ takes_of_flags x.groups x.sites covers x.rules sets site fit.matched);
    }
