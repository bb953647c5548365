use Rattle.std.proofs.Common.{◌≡◌, ◌≤◌, drop, length}
use Rattle.policy_tests.specs.Pairs.{flags_meet}
use Rattle.policy_tests.proofs.pairs.flags_meet.Given as goal

-- the flags to come meet where all do
abbrev pub invariant-loop-at : goal.invariant-loop-at
invariant-loop-at l = record {
  within : l.at ≤ length l.b;
  rest : flags_meet (drop l.at l.a) (drop l.at l.b) ≡ flags_meet l.a l.b;
}
