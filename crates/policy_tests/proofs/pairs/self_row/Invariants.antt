use Rattle.std.proofs.Common.{◌≡◌, take}
use Rattle.std.specs.Prelude.{map}
use Rattle.policy_tests.specs.Pairs.{opens_own}
use Rattle.policy_tests.proofs.pairs.self_row.Given as goal

abbrev pub invariant-loop-rule : goal.invariant-loop-rule
invariant-loop-rule l = l.row ≡ map (opens_own l.proto l.port) (take l.rule-index l.x.rules)
