use Rattle.std.proofs.Common.{◌≡◌, ◌++◌, drop}
use Rattle.std.specs.Prelude.{flat_map}
use Rattle.filter_compile.specs.Filters.{rule_filter}
use Rattle.filter_compile.proofs.filter.filter_for.Given as goal

abbrev pub invariant-loop-at : goal.invariant-loop-at
invariant-loop-at l =
    l.out ++ flat_map (rule_filter l.expanded.groups l.expanded.sites l.machine) (drop l.at l.expanded.rules)
    ≡ flat_map (rule_filter l.expanded.groups l.expanded.sites l.machine) l.expanded.rules
