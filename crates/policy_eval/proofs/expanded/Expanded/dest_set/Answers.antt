use Rattle.std.proofs.Common.{◌∙◌, ◌≡◌, List, ℕ, ap, sym, subst}
use Rattle.std.specs.Prelude.{slice_index_or}
use Rattle.policy_eval.specs.Expansion.{IsSetOf, entry_covers}
use Rattle.policy_sites.specs.Grants.{open_dest, open_rule}
use Rattle.policy_eval.specs.declared.cover.Cover.{Cover}
use Rattle.std.proofs.lemmas.Option.{get_or_from_slice_get, slice_get_within}
use Rattle.policy_eval.proofs.FitLemmas.{entry_at, entry_inside, fit_moved, rule_inside}
use Rattle.policy_eval.proofs.expanded.Expanded.dest_set.Goals as goal

pub sets_of-sets-requires : goal.sets_of-sets-requires
sets_of-sets-requires c =
    let fit = fit_moved _ c.args.self.now c.self.inside.covers _ c.as_slice.result.now c.self.invariant c.self.view_is c.as_slice.ensures.value in
    record { inside = rule_inside c.args.self.now c.self.inside.covers c.as_slice.result.now c.args.rule fit c.requires.rule_inside }

pub place_of-place-requires : goal.place_of-place-requires
place_of-place-requires c =
    let fit = fit_moved _ c.args.self.now c.self.inside.covers _ c.as_slice.result.now c.self.invariant c.self.view_is c.as_slice.ensures.value in
    record {
      inside = rw c.as_slice-2.ensures.value (
          entry_inside c.args.self.now c.self.inside.covers c.as_slice.result.now c.args.rule c.sets_of-sets.result.now c.args.entry open_rule fit c.requires.rule_inside c.sets_of-sets.ensures.value
          (c.requires.entry_inside open_rule)
          );
    }

pub cover_at-requires : goal.cover_at-requires
cover_at-requires c =
    let fit = fit_moved _ c.args.self.now c.self.inside.covers _ c.as_slice.result.now c.self.invariant c.self.view_is c.as_slice.ensures.value in
    let place = c.place_of-place.ensures.value ∙ ap (λ (ps : List ℕ). slice_index_or ps c.args.entry 0) c.as_slice-2.ensures.value in
    let at = entry_at c.args.self.now c.self.inside.covers c.as_slice.result.now c.args.rule c.sets_of-sets.result.now c.args.entry c.place_of-place.result fit c.requires.rule_inside c.sets_of-sets.ensures.value
    place open_rule open_dest (c.requires.entry_inside open_rule) in
    record { inside = rw c.as_slice-3.ensures.value (slice_get_within c.self.inside.covers c.place_of-place.result at.0 at.1) }

pub returns : goal.returns
returns c =
    let fit = fit_moved _ c.args.self.now c.self.inside.covers _ c.as_slice.result.now c.self.invariant c.self.view_is c.as_slice.ensures.value in
    let place = c.place_of-place.ensures.value ∙ ap (λ (ps : List ℕ). slice_index_or ps c.args.entry 0) c.as_slice-2.ensures.value in
    record {
      held = λ d e.
          let at = entry_at c.args.self.now c.self.inside.covers c.as_slice.result.now c.args.rule c.sets_of-sets.result.now c.args.entry c.place_of-place.result fit c.requires.rule_inside c.sets_of-sets.ensures.value
          place d e (c.requires.entry_inside d) in
          let got : c.cover_at.result.now ≡ at.0 = c.cover_at.ensures.value at.0 ∙ (ap (λ (cs : List Cover). slice_index_or cs c.place_of-place.result at.0) c.as_slice-3.ensures.value
          ∙ get_or_from_slice_get c.self.inside.covers c.place_of-place.result at.0 at.0 at.1) in
          subst (λ (x : Cover). IsSetOf x.set (entry_covers c.args.self.now.groups c.args.self.now.sites (slice_index_or (slice_index_or c.args.self.now.rules c.args.rule d).dests c.args.entry e))) (sym got) at.2.set;
    }
