use Rattle.std.proofs.Common.{◌≡◌, ◌++◌, drop}
use Rattle.std.specs.Prelude.{flat_map}
use Rattle.reach_report.specs.Reaches.{reaches_from}
use Rattle.reach_report.proofs.reaching.reaches_of.Given as goal

-- with what is said of the machines to come it is all
abbrev pub invariant-loop-a : goal.invariant-loop-a
invariant-loop-a l =
    l.made ++ flat_map (reaches_from l.x.groups l.x.rules l.x.sites) (drop l.a l.x.sites) ≡ flat_map (reaches_from l.x.groups l.x.rules l.x.sites) l.x.sites
