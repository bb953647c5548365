use Rattle.std.proofs.Common.{◌≡◌, ◌++◌, drop}
use Rattle.map_delta.specs.Delta.{changed_rows}
use Rattle.map_delta.proofs.change.changed_rows.Given as goal

abbrev pub invariant-loop-node : goal.invariant-loop-node
invariant-loop-node l = l.changed ++ changed_rows l.old (drop l.node-index l.new) ≡ changed_rows l.old l.new
