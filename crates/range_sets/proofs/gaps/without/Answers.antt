use Rattle.std.proofs.Common.{◌∙◌, ◌+◌, ◌||◌, ap, not}
use Rattle.range_sets.specs.Spans.{AreBelow, spans_hold}
use Rattle.range_sets.proofs.GapLemmas.{if_ok_both, without_same}
use Rattle.range_sets.proofs.SpanLemmas.{below_highest, from_size, rising_from_apart}
use Rattle.range_sets.proofs.gaps.without.Goals as goal

pub united-requires-clause-left : goal.united-requires-clause-left
united-requires-clause-left c = rw c.deref.ensures.value (rising_from_apart 0 _ _ c.in_ok-outside_a.ensures.apart)

pub united-requires-clause-right : goal.united-requires-clause-right
united-requires-clause-right c = rising_from_apart 0 _ _ c.requires.right

pub gaps-requires-2 : goal.gaps-requires-2
gaps-requires-2 c =
    let left : AreBelow (c.args.highest + 1) c.deref.result.now = rw c.deref.ensures.value (below_highest c.args.highest c.in_ok-outside_a.outside_a.items c.in_ok-outside_a.ensures.apart) in
    let right = below_highest c.args.highest c.args.b.now c.requires.right in
    record { apart = rw c.deref-2.ensures.value (from_size c.args.highest _ (c.in_ok-outside.ensures.apart (c.args.highest + 1) left right)) }

pub returns-clause-same : goal.returns-clause-same
returns-clause-same c =
    if_ok_both c.gaps-2.result _ _ _
    (λ v apart same. without_same v.items c.in_ok-outside.outside.items c.in_ok-outside_a.outside_a.items c.args.a.now c.args.b.now c.args.highest apart c.requires.left
    (λ x le. same x le ∙ ap (λ ss. not (spans_hold ss x)) c.deref-2.ensures.value)
    (λ x. c.in_ok-outside.ensures.same x ∙ ap (λ ss. spans_hold ss x || spans_hold c.args.b.now x) c.deref.ensures.value)
    c.in_ok-outside_a.ensures.same)
    c.gaps-2.ensures.apart c.gaps-2.ensures.same
