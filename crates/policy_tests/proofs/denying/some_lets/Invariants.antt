use Rattle.std.proofs.Common.{◌≡◌, false, take}
use Rattle.std.specs.List.{list_any}
use Rattle.policy_tests.specs.Sides.{lets_by}
use Rattle.policy_tests.proofs.denying.some_lets.Given as goal

-- by none of the rules before
abbrev pub invariant-loop-at : goal.invariant-loop-at
invariant-loop-at l = list_any (lets_by l.x l.proto l.port l.sources l.dests) (take l.at l.x.rules) ≡ false
