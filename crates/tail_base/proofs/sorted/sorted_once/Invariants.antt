use Rattle.std.proofs.Common.{◌≡◌, ◌≤◌, drop, length}
use Rattle.std.specs.Prelude.{fold}
use Rattle.tail_base.specs.Sorted.{with_element, sorted_once}
use Rattle.tail_base.proofs.sorted.sorted_once.Given as goal

abbrev pub invariant-loop-item : goal.invariant-loop-item
invariant-loop-item g l =
    (fold (with_element g.T.Ord.cmp) l.held.items (drop l.item-index l.items) ≡ sorted_once g.T.Ord.cmp l.items)
    × (length l.held.items ≤ l.item-index)
