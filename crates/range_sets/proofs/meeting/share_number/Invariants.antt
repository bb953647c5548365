use Rattle.std.proofs.Common.{◌+◌, length}
use Rattle.range_sets.proofs.MeetLemmas.{IsLeft}
use Rattle.range_sets.proofs.meeting.share_number.Given as goal

abbrev pub invariant-loop-x : goal.invariant-loop-x
invariant-loop-x l = IsLeft l.left l.right l.a l.b

abbrev pub decreases-loop-x : goal.decreases-loop-x
decreases-loop-x l = length l.left + length l.right
