use Rattle.std.proofs.Common.{◌≡◌, length}
use Rattle.range_sets.specs.Walks.{ending_from}
use Rattle.range_sets.proofs.walk.ending_from.Given as goal

abbrev pub invariant-loop-head : goal.invariant-loop-head
invariant-loop-head l = ending_from l.least l.rest ≡ ending_from l.least l.spans

abbrev pub decreases-loop-head : goal.decreases-loop-head
decreases-loop-head l = length l.rest
