use Rattle.std.proofs.Common.{◌≡◌, ◌++◌, take, drop}
use Rattle.tail_base.specs.Sorted.{with_element}
use Rattle.tail_base.proofs.sorted.place_of.Given as goal

abbrev pub invariant-loop-i : goal.invariant-loop-i
invariant-loop-i g l = with_element g.T.Ord.cmp l.held l.item ≡ take l.i l.held ++ with_element g.T.Ord.cmp (drop l.i l.held) l.item
