use Rattle.std.proofs.Common.{◌≡◌, ◌≤◌, ◌-◌, ℕ, Some}
use Rattle.command_words.proofs.values.only_of.Given as goal

-- no smaller protocol is the member
abbrev pub invariant-loop-proto : goal.invariant-loop-proto
invariant-loop-proto l = (proto : ℕ) → l.protos ≡ Some proto → l.proto ≤ proto

abbrev pub decreases-loop-proto : goal.decreases-loop-proto
decreases-loop-proto l = 255 - l.proto
