use Rattle.std.proofs.Common.{◌≡◌, ◌++◌, drop}
use Rattle.policy_tests.specs.Sides.{names_machine, places_from}
use Rattle.policy_tests.proofs.side.places_of.Given as goal

-- with the places of the machines to come these are all
abbrev pub invariant-loop-at : goal.invariant-loop-at
invariant-loop-at l =
    l.out ++ places_from (names_machine l.groups l.selector) l.at (drop l.at l.sites) ≡ places_from (names_machine l.groups l.selector) 0 l.sites
