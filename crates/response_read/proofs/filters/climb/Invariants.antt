use Rattle.std.proofs.Common.{◌≡◌, drop}
use Rattle.response_read.specs.Filters.{climb_from}
use Rattle.response_read.proofs.filters.climb.Given as goal

-- what is left decides, from the last number on
abbrev pub invariant-loop-number : goal.invariant-loop-number
invariant-loop-number l = climb_from l.low (drop l.number-index l.numbers) ≡ climb_from 0 l.numbers
