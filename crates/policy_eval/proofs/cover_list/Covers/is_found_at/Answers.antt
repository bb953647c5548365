use Rattle.std.proofs.Common.{◌∙◌, ap, sym, subst}
use Rattle.std.specs.Option.{option_copied}
use Rattle.policy_eval.specs.Covering.{Covering, IsCovering}
use Rattle.policy_eval.proofs.CoverLemmas.{found_at}
use Rattle.policy_eval.proofs.cover_list.Covers.is_found_at.Goals as goal

pub returns-in-Some : goal.returns-in-Some
returns-in-Some c =
    let x = c.args.self.now in
    let sound : IsCovering x = subst (λ (z : Covering). IsCovering z) c.self.view_is c.self.invariant in
    let items = c.as_slice.ensures.value ∙ ap (λ (z : Covering). z.list) c.self.view_is in
    let there = sym c.cover_at.ensures.value ∙ ap option_copied c.in-Some.is in
    record {
      there = λ same. found_at x c.as_slice.result.now c.args.place c.in-Some.cover.now c.args.selector.now sound items there (c.same_selector.ensures.same same);
    }
