use Rattle.std.proofs.Common.{◌≡◌, drop}
use Rattle.std.specs.List.{position_from}
use Rattle.policy_sites.specs.Grants.{entry_grants}
use Rattle.reach_report.proofs.explaining.first_of_entries.Given as goal

-- the first of the destinations to come is the first of all
abbrev pub invariant-loop-at : goal.invariant-loop-at
invariant-loop-at l =
    position_from (entry_grants l.groups l.source l.dest l.proto l.port) l.at (drop l.at l.entries)
    ≡ position_from (entry_grants l.groups l.source l.dest l.proto l.port) 0 l.entries
