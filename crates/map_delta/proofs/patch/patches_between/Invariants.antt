use Rattle.std.proofs.Common.{◌≡◌, ◌++◌, drop}
use Rattle.map_delta.specs.Delta.{patches_between}
use Rattle.map_delta.proofs.patch.patches_between.Given as goal

abbrev pub invariant-loop-node : goal.invariant-loop-node
invariant-loop-node l = l.patches ++ patches_between l.old (drop l.node-index l.new) ≡ patches_between l.old l.new
