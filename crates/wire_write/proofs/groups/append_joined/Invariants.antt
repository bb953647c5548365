use Rattle.std.proofs.Common.{◌≡◌, ◌++◌, length, string_bytes}
use Rattle.net_addr.specs.GroupTexts.{joined}
use Rattle.wire_write.proofs.groups.append_joined.Given as goal

abbrev pub invariant-loop-rest : goal.invariant-loop-rest
invariant-loop-rest l = string_bytes l.room ++ joined l.rest ≡ string_bytes l.fn.room ++ joined l.groups

abbrev pub decreases-loop-rest : goal.decreases-loop-rest
decreases-loop-rest l = length l.rest
