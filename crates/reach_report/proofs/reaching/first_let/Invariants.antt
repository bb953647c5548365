use Rattle.std.proofs.Common.{◌≡◌, drop}
use Rattle.std.specs.List.{position_from}
use Rattle.policy_sites.specs.ByRule.{lets_through}
use Rattle.reach_report.proofs.reaching.first_let.Given as goal

-- the first of the rules to come is the first of all
abbrev pub invariant-loop-at : goal.invariant-loop-at
invariant-loop-at l =
    position_from (lets_through l.x.groups l.from l.to) l.at (drop l.at l.x.rules) ≡ position_from (lets_through l.x.groups l.from l.to) 0 l.x.rules
