use Rattle.std.proofs.Common.{◌≡◌, ◌++◌, drop}
use Rattle.port_sets.specs.Ranges.{inserted}
use Rattle.port_sets.proofs.merge.inserted.Given as goal

abbrev pub invariant-loop-other : goal.invariant-loop-other
invariant-loop-other l = l.out.items ++ inserted l.range (drop l.other-index l.ranges) ≡ inserted l.fn.range l.ranges
