use Rattle.std.proofs.Common.{◌≡◌, ◌++◌, map}
use Rattle.std.specs.Vec.Iter.{into_iter_items}
use Rattle.map_delta.specs.Fold.{patched_if}
use Rattle.map_delta.proofs.patching.patched_rows.Given as goal

abbrev pub invariant-loop-node : goal.invariant-loop-node
invariant-loop-node l = l.made.items ++ map (patched_if l.patch) (into_iter_items l.node-iterator) ≡ map (patched_if l.patch) l.fn.nodes.items
