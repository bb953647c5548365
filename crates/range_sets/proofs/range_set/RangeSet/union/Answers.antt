use Rattle.std.proofs.Common.{◌^◌}
use Rattle.range_sets.specs.Spans.{AreBelow}
use Rattle.range_sets.proofs.SpanLemmas.{AreBelow-apart, rising_from_apart}
use Rattle.range_sets.proofs.range_set.RangeSet.union.Goals as goal

pub united-requires-clause-left : goal.united-requires-clause-left
united-requires-clause-left c = rw c.deref.ensures.value (rising_from_apart 0 _ _ c.self.invariant.v4_apart)

pub united-requires-clause-right : goal.united-requires-clause-right
united-requires-clause-right c = rw c.deref-2.ensures.value (rising_from_apart 0 _ _ c.other.invariant.v4_apart)

pub united-requires-2-clause-left : goal.united-requires-2-clause-left
united-requires-2-clause-left c = rw c.deref-3.ensures.value (rising_from_apart 0 _ _ c.self.invariant.v6_apart)

pub united-requires-2-clause-right : goal.united-requires-2-clause-right
united-requires-2-clause-right c = rw c.deref-4.ensures.value (rising_from_apart 0 _ _ c.other.invariant.v6_apart)

pub invariant_of-result : goal.invariant_of-result
invariant_of-result c =
    let a : AreBelow (2 ^ 32) c.deref.result.now = rw c.deref.ensures.value (AreBelow-apart 0 (2 ^ 32) _ c.self.invariant.v4_apart) in
    let b : AreBelow (2 ^ 32) c.deref-2.result.now = rw c.deref-2.ensures.value (AreBelow-apart 0 (2 ^ 32) _ c.other.invariant.v4_apart) in
    let d : AreBelow (2 ^ 128) c.deref-3.result.now = rw c.deref-3.ensures.value (AreBelow-apart 0 (2 ^ 128) _ c.self.invariant.v6_apart) in
    let e : AreBelow (2 ^ 128) c.deref-4.result.now = rw c.deref-4.ensures.value (AreBelow-apart 0 (2 ^ 128) _ c.other.invariant.v6_apart) in
    record {
      v4_apart = c.in_ok-united.ensures.apart (2 ^ 32) a b;
      v6_apart = c.in_ok-united-2.ensures.apart (2 ^ 128) d e;
    }
