use Rattle.std.proofs.Common.{◌∙◌, ◌+◌, ◌||◌, ap, not}
use Rattle.range_sets.specs.Spans.{AreBelow, spans_hold}
use Rattle.range_sets.proofs.GapLemmas.{if_ok_both, shared_same}
use Rattle.range_sets.proofs.SpanLemmas.{below_highest, from_size, rising_from_apart}
use Rattle.range_sets.proofs.gaps.shared.Goals as goal

pub united-requires-clause-left : goal.united-requires-clause-left
united-requires-clause-left c = rw c.deref.ensures.value (rising_from_apart 0 _ _ c.in_ok-outside_a.ensures.apart)

pub united-requires-clause-right : goal.united-requires-clause-right
united-requires-clause-right c = rw c.deref-2.ensures.value (rising_from_apart 0 _ _ c.in_ok-outside_b.ensures.apart)

pub gaps-requires-3 : goal.gaps-requires-3
gaps-requires-3 c =
    let left : AreBelow (c.args.highest + 1) c.deref.result.now = rw c.deref.ensures.value (below_highest c.args.highest c.in_ok-outside_a.outside_a.items c.in_ok-outside_a.ensures.apart) in
    let right : AreBelow (c.args.highest + 1) c.deref-2.result.now = rw c.deref-2.ensures.value (below_highest c.args.highest c.in_ok-outside_b.outside_b.items c.in_ok-outside_b.ensures.apart) in
    record { apart = rw c.deref-3.ensures.value (from_size c.args.highest _ (c.in_ok-outside.ensures.apart (c.args.highest + 1) left right)) }

pub returns-clause-same : goal.returns-clause-same
returns-clause-same c =
    if_ok_both c.gaps-3.result _ _ _
    (λ v apart same. shared_same v.items c.in_ok-outside.outside.items c.in_ok-outside_a.outside_a.items c.in_ok-outside_b.outside_b.items c.args.a.now c.args.b.now c.args.highest apart c.requires.left
    (λ x le. same x le ∙ ap (λ ss. not (spans_hold ss x)) c.deref-3.ensures.value)
    (λ x. c.in_ok-outside.ensures.same x ∙ (ap (λ ss. spans_hold ss x || spans_hold c.deref-2.result.now x) c.deref.ensures.value ∙ ap (λ ss. spans_hold c.in_ok-outside_a.outside_a.items x || spans_hold ss x) c.deref-2.ensures.value))
    c.in_ok-outside_a.ensures.same c.in_ok-outside_b.ensures.same)
    c.gaps-3.ensures.apart c.gaps-3.ensures.same
