use Rattle.std.proofs.Common.{◌≡◌, ◌++◌, drop}
use Rattle.std.specs.Prelude.{flat_map}
use Rattle.filter_compile.specs.Parts.{with_ports}
use Rattle.filter_compile.proofs.dest_ranges.add_prefixes.Given as goal

abbrev pub invariant-loop-to : goal.invariant-loop-to
invariant-loop-to l = l.out ++ flat_map (with_ports l.ports) (drop l.to-index l.prefixes) ≡ l.fn.out ++ flat_map (with_ports l.ports) l.prefixes
