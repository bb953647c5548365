use Rattle.std.proofs.Common.{◌≡◌, take}
use Rattle.std.specs.Prelude.{map}
use Rattle.policy_tests.specs.Pairs.{dest_target}
use Rattle.policy_tests.proofs.pairs.targets_of.Given as goal

abbrev pub invariant-loop-end : goal.invariant-loop-end
invariant-loop-end l = l.targets ≡ map (dest_target l.x l.proto l.port) (take l.end-index l.ends)
