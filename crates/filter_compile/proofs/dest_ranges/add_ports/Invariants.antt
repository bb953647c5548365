use Rattle.std.proofs.Common.{◌≡◌, ◌++◌, drop}
use Rattle.filter_compile.specs.Parts.{with_ports}
use Rattle.filter_compile.proofs.dest_ranges.add_ports.Given as goal

abbrev pub invariant-loop-range : goal.invariant-loop-range
invariant-loop-range l = l.out ++ with_ports (drop l.range-index l.ports) l.to ≡ l.fn.out ++ with_ports l.ports l.to
