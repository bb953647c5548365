use Rattle.std.proofs.Common.{◌≡◌, drop}
use Rattle.reach_report.specs.FirstGrant.{first_of_rules}
use Rattle.reach_report.proofs.explaining.first_of_rules.Given as goal

-- the first grant of the rules to come is that of all
abbrev pub invariant-loop-at : goal.invariant-loop-at
invariant-loop-at l =
    first_of_rules l.groups l.source l.dest l.proto l.port l.at (drop l.at l.rules)
    ≡ first_of_rules l.groups l.source l.dest l.proto l.port 0 l.rules
