use Rattle.std.proofs.Common.{◌≡◌, drop, map}
use Rattle.memory_edge.proofs.doors.MemoryDoors.new.Given as goal

-- each door so far has its plan's connections
abbrev pub invariant-loop-plan : goal.invariant-loop-plan
invariant-loop-plan l = map (λ door. drop door.at door.connections) l.places.items ≡ map (λ plan. plan.connections) l.yielded
