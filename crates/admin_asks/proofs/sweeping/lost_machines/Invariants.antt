use Rattle.std.proofs.Common.{◌≡◌, ◌++◌, drop}
use Rattle.admin_asks.specs.Sweep.{lost_machines}
use Rattle.admin_asks.proofs.sweeping.lost_machines.Given as goal

abbrev pub invariant-loop-machine : goal.invariant-loop-machine
invariant-loop-machine l = l.gone ++ lost_machines l.at (drop l.machine-index l.machines) ≡ lost_machines l.at l.machines
