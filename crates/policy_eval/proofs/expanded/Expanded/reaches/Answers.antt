use Rattle.std.proofs.Common.{◌≡◌, ◌∙◌, List, ap}
use Rattle.std.specs.Prelude.{slice_index_or}
use Rattle.policy_sites.specs.Covers.{is_own}
use Rattle.policy_sites.specs.Ends.{holder_of}
use Rattle.policy_eval.specs.Expansion.{Expansion}
use Rattle.policy_sites.specs.declared.site.Site.{Site}
use Rattle.policy_eval.proofs.FitLemmas.{fit_moved, reach_by_flags}
use Rattle.policy_eval.proofs.expanded.Expanded.reaches.Goals as goal

pub returns : goal.returns
returns c =
    let x = c.args.self.now in
    let fit = fit_moved _ x c.self.inside.covers _ c.as_slice.result.now c.self.invariant c.self.view_is c.as_slice.ensures.value in
    record {
      value = λ s.
          let p : c.site_at.result.now ≡ slice_index_or x.sites c.args.a s = c.site_at.ensures.value s ∙ ap (λ (ss : List Site). slice_index_or ss c.args.a s) (c.as_slice-sites.ensures.value ∙ ap (λ (e : Expansion). e.sites) c.self.view_is) in
          let q : c.site_at-2.result.now ≡ slice_index_or x.sites c.args.b s = c.site_at-2.ensures.value s ∙ ap (λ (ss : List Site). slice_index_or ss c.args.b s) (c.as_slice-sites.ensures.value ∙ ap (λ (e : Expansion). e.sites) c.self.view_is) in
          let own : c.are_own-own.result ≡ is_own (holder_of (slice_index_or x.sites c.args.a s)) (holder_of (slice_index_or x.sites c.args.b s)) =
          c.are_own-own.ensures.value ∙ (λ i. is_own (holder_of (p i)) (holder_of (q i))) in
          c.some_let.ensures.value ∙ reach_by_flags x c.self.inside.covers c.as_slice.result.now c.args.a c.args.b c.are_own-own.result s fit c.requires.a_inside c.requires.b_inside own;
    }
