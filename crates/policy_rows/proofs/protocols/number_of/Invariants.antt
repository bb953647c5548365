use Rattle.std.proofs.Common.{◌≡◌, ◌-◌, ◌≤◌, ℕ, Some}
use Rattle.policy_rows.proofs.protocols.number_of.Given as goal

-- the protocol is this number or a greater one
abbrev pub invariant-loop-number : goal.invariant-loop-number
invariant-loop-number l = (p : ℕ) → l.protos ≡ Some p → l.number ≤ p

abbrev pub decreases-loop-number : goal.decreases-loop-number
decreases-loop-number l = 255 - l.number
