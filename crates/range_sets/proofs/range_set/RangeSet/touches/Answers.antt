use Rattle.std.proofs.Common.{◌+◌, ◌^◌, arith}
use Rattle.range_sets.proofs.SpanLemmas.{AreApart-higher}
use Rattle.range_sets.proofs.TouchLemmas.{first_shared, second_shared, touches_searched}
use Rattle.range_sets.proofs.range_set.RangeSet.touches.Goals as goal

pub share_number-requires-clause-left : goal.share_number-requires-clause-left
share_number-requires-clause-left c = rw c.deref.ensures.value (AreApart-higher 0 (2 ^ 32 + 1) (2 ^ 128 + 1) _ c.self.invariant.v4_apart (omega arith))

pub share_number-requires-clause-right : goal.share_number-requires-clause-right
share_number-requires-clause-right c = rw c.deref-2.ensures.value (AreApart-higher 0 (2 ^ 32 + 1) (2 ^ 128 + 1) _ c.other.invariant.v4_apart (omega arith))

pub returns-then-share_number-clause-meaning : goal.returns-then-share_number-clause-meaning
returns-then-share_number-clause-meaning c =
    let v4 = rw (c.deref.ensures.value, c.deref-2.ensures.value) at c.share_number.ensures.meaning in
    first_shared _ _ _ _ c.share_number.result c.self.invariant c.self.view_is c.other.view_is v4 c.if-share_number.true

pub returns-then-share_number-clause-value : goal.returns-then-share_number-clause-value
returns-then-share_number-clause-value c = touches_searched c.args.self.now c.args.other.now c.share_number.result (returns-then-share_number-clause-meaning c)

pub returns-else-share_number-clause-meaning : goal.returns-else-share_number-clause-meaning
returns-else-share_number-clause-meaning c =
    let v4 = rw (c.deref.ensures.value, c.deref-2.ensures.value) at c.share_number.ensures.meaning in
    let v6 = rw (c.deref-else-share_number.ensures.value, c.deref-else-share_number-2.ensures.value) at c.share_number-else-share_number.ensures.meaning in
    second_shared _ _ _ _ c.share_number.result c.share_number-else-share_number.result c.self.invariant c.self.view_is c.other.view_is v4 c.if-share_number.false v6

pub returns-else-share_number-clause-value : goal.returns-else-share_number-clause-value
returns-else-share_number-clause-value c = touches_searched c.args.self.now c.args.other.now c.share_number-else-share_number.result (returns-else-share_number-clause-meaning c)
