use Rattle.std.proofs.Common.{◌≡◌, ◌++◌, drop}
use Rattle.std.specs.Prelude.{flat_map}
use Rattle.filter_compile.specs.Filters.{own_ranges}
use Rattle.filter_compile.proofs.dests.own_dests.Given as goal

abbrev pub invariant-loop-entry : goal.invariant-loop-entry
invariant-loop-entry l = l.out ++ flat_map (own_ranges l.prefixes) (drop l.entry-index l.rule.dests) ≡ flat_map (own_ranges l.prefixes) l.rule.dests
