use Rattle.std.proofs.Common.{◌≡◌, ◌++◌, drop}
use Rattle.map_delta.specs.Delta.{removed_ids}
use Rattle.map_delta.proofs.change.removed_ids.Given as goal

abbrev pub invariant-loop-node : goal.invariant-loop-node
invariant-loop-node l = l.removed ++ removed_ids (drop l.node-index l.old) l.new ≡ removed_ids l.old l.new
