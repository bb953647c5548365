use Rattle.std.proofs.Common.{◌≡◌, ◌++◌, length}
use Rattle.net_addr.specs.GroupTexts.{joined}
use Rattle.net_addr.proofs.groups.joined.Given as goal

abbrev pub invariant-loop-rest : goal.invariant-loop-rest
invariant-loop-rest l = l.text ++ joined l.rest ≡ joined l.groups

abbrev pub decreases-loop-rest : goal.decreases-loop-rest
decreases-loop-rest l = length l.rest
