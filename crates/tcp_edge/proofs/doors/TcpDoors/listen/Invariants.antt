use Rattle.std.proofs.Common.{◌≡◌, ◌≤◌, ◌-◌, vec_len}
use Rattle.std.specs.Prelude.{All}
use Rattle.tcp_edge.proofs.doors.TcpDoors.listen.Given as goal

-- not too many doors, and each of them fresh
abbrev pub invariant-doors : goal.invariant-doors
invariant-doors g l = (vec_len l.doors ≤ l.wanted) × All (λ d. d.failed ≡ 0) l.doors.items

abbrev pub decreases-doors : goal.decreases-doors
decreases-doors g l = l.wanted - vec_len l.doors
