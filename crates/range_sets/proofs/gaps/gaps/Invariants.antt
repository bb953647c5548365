use Rattle.std.proofs.Common.{drop}
use Rattle.range_sets.proofs.GapLemmas.{Gaps}
use Rattle.range_sets.proofs.gaps.gaps.Given as goal

abbrev pub invariant-loop-span : goal.invariant-loop-span
invariant-loop-span l = Gaps l.highest l.out.items l.next (drop l.span-index l.spans) l.spans
