use Rattle.std.proofs.Common.{◌≡◌, ◌++◌, drop}
use Rattle.std.specs.Prelude.{filter_map}
use Rattle.reach_report.specs.Reaches.{reach_between}
use Rattle.reach_report.proofs.reaching.add_reaches.Given as goal

-- with what is said of the machines to come it is all
abbrev pub invariant-loop-b : goal.invariant-loop-b
invariant-loop-b l =
    l.out ++ filter_map (reach_between l.x.groups l.x.rules l.from) (drop l.b l.x.sites)
    ≡ l.fn.out ++ filter_map (reach_between l.x.groups l.x.rules l.from) l.x.sites
