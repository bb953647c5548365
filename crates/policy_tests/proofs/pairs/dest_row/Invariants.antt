use Rattle.std.proofs.Common.{◌≡◌, take}
use Rattle.std.specs.Prelude.{map}
use Rattle.policy_tests.specs.Pairs.{opens_to}
use Rattle.policy_tests.proofs.pairs.dest_row.Given as goal

abbrev pub invariant-loop-rule : goal.invariant-loop-rule
invariant-loop-rule l = l.row ≡ map (opens_to l.x.groups l.proto l.port l.end) (take l.rule-index l.x.rules)
