use Rattle.std.proofs.Common.{◌≡◌, ◌+◌, ◌-◌, ◌^◌, min, sum_by, take}
use Rattle.memory_edge.proofs.doors.MemoryDoorsDoors.close.Given as goal

-- the faults of the doors so far were added
abbrev pub invariant-loop-door : goal.invariant-loop-door
invariant-loop-door l = l.all ≡ min (l.fn.self.faults.count + sum_by (λ d. d.faults.count) (take l.door-index l.door-items)) (2 ^ 64 - 1)
