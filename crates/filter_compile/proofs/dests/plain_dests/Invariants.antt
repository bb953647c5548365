use Rattle.std.proofs.Common.{◌≡◌, ◌++◌, drop}
use Rattle.std.specs.Prelude.{flat_map}
use Rattle.filter_compile.specs.Filters.{entry_dests}
use Rattle.filter_compile.proofs.dests.plain_dests.Given as goal

abbrev pub invariant-loop-place : goal.invariant-loop-place
invariant-loop-place l =
    l.out ++ flat_map (entry_dests l.expanded.groups l.expanded.sites l.machine) (drop l.place l.rule.dests)
    ≡ flat_map (entry_dests l.expanded.groups l.expanded.sites l.machine) l.rule.dests
