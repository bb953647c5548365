use Rattle.std.proofs.Common.{◌≡◌, ◌+◌, ◌-◌, ◌^◌, min, sum_by, take}
use Rattle.tcp_edge.proofs.doors.TcpDoorsDoors.close.Given as goal

-- the faults of the doors so far were added
abbrev pub invariant-loop-door : goal.invariant-loop-door
invariant-loop-door g l = l.all ≡ min (l.fn.self.failed + sum_by (λ d. d.failed) (take l.door-index l.door-items)) (2 ^ 64 - 1)
