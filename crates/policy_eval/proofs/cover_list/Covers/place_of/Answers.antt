use Rattle.std.proofs.Common.{◌∙◌, List, ap}
use Rattle.policy_eval.proofs.CoverLemmas.{covering_more, get_end}
use Rattle.policy_eval.specs.declared.cover.Cover.{Cover}
use Rattle.std.specs.Prelude.{slice_get}
use Rattle.policy_eval.proofs.cover_list.Covers.place_of.Goals as goal

pub invariant_of-self-2 : goal.invariant_of-self-2
invariant_of-self-2 c =
    covering_more c.self.inside.groups.now c.self.inside.sites.now c.self.inside.list c.push.new.self c.in_ok-cover.cover c.args.selector.now c.self.invariant c.in_ok-cover.ensures.fits c.in_ok-push.ensures.ok

pub returns-clause-there : goal.returns-clause-there
returns-clause-there c =
    let there = ap (λ (cs : List Cover). slice_get cs c.len-place.result) c.in_ok-push.ensures.ok
    ∙ (ap (slice_get _) c.len-place.ensures.value ∙ get_end c.self.inside.list c.in_ok-cover.cover) in
    (c.in_ok-cover.cover, there, c.in_ok-cover.ensures.fits)
