use Rattle.std.proofs.Common.{◌≡◌, [], drop, arith}
use Rattle.std.proofs.lemmas.Grind.{common_steps}
use Rattle.range_sets.proofs.GapLemmas.{end_apart, gaps_end, gaps_more, gaps_turn, stop_apart, stop_same}
use Rattle.range_sets.proofs.gaps.gaps.Goals as goal

pub loop-span-preserved : goal.loop-span-preserved
loop-span-preserved c =
    let turn = gaps_turn c.args.highest c.loop-span.out.items c.loop-span.next c.args.spans.now c.loop-span.span-index (record { first = 0; last = 0 }) c.args.spans.now (omega arith) c.loop-span.invariant in
    rw c.in_ok-add_gap.ensures.value (gaps_more c.args.highest _ _ _ _ _ (omega arith) turn)

pub returns-then-highest-span-clause-apart : goal.returns-then-highest-span-clause-apart
returns-then-highest-span-clause-apart c =
    let turn = gaps_turn c.args.highest c.loop-span.out.items c.loop-span.next c.args.spans.now c.loop-span.span-index (record { first = 0; last = 0 }) c.args.spans.now (omega arith) c.loop-span.invariant in
    rw c.in_ok-add_gap.ensures.value (stop_apart c.args.highest _ _ _ _ _ turn)

pub returns-then-highest-span-clause-same : goal.returns-then-highest-span-clause-same
returns-then-highest-span-clause-same c =
    let turn = gaps_turn c.args.highest c.loop-span.out.items c.loop-span.next c.args.spans.now c.loop-span.span-index (record { first = 0; last = 0 }) c.args.spans.now (omega arith) c.loop-span.invariant in
    rw c.in_ok-add_gap.ensures.value (stop_same c.args.highest _ _ _ _ _ (omega arith) turn)

pub returns-clause-apart : goal.returns-clause-apart
returns-clause-apart c =
    let e : drop c.loop-span.span-index c.args.spans.now ≡ [] = grind (arith, common_steps) in
    rw c.in_ok-push.ensures.items (end_apart c.args.highest _ _ c.args.spans.now (gaps_end c.args.highest _ _ _ _ e c.loop-span.invariant))
