use Rattle.std.proofs.Common.{◌≡◌, ◌++◌, drop}
use Rattle.admin_asks.specs.Nodes.{node_lines}
use Rattle.admin_asks.proofs.node_asks.node_lines.Given as goal

abbrev pub invariant-loop-machine : goal.invariant-loop-machine
invariant-loop-machine l = l.lines ++ node_lines l.at (drop l.machine-index l.machines) ≡ node_lines l.at l.machines
