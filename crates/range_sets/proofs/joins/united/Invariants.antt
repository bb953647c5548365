use Rattle.std.proofs.Common.{◌+◌, length}
use Rattle.range_sets.proofs.JoinLemmas.{Kept}
use Rattle.range_sets.proofs.joins.united.Given as goal

abbrev pub invariant-loop-next : goal.invariant-loop-next
invariant-loop-next l = Kept l.out.items l.current l.left l.right l.a l.b

abbrev pub decreases-loop-next : goal.decreases-loop-next
decreases-loop-next l = length l.left + length l.right
