use Rattle.std.proofs.Common.{◌≡◌, ℕ, drop, length, map, slice_get}
use Rattle.std.specs.Prelude.{All, IfSome}
use Rattle.io_edge.specs.Door.{IsOpenedWith, for_place}
use Rattle.memory_edge.specs.contracts.door.MemoryDoorDoor.TheImpl.{ghosts}
use Rattle.memory_edge.proofs.doors.MemoryDoors.doors_for.Given as goal

-- each door so far is the one for its place
abbrev pub invariant-loop-place : goal.invariant-loop-place
invariant-loop-place l = (length l.doors.items ≡ l.place) × All (λ d. ghosts.faults d ≡ 0) l.doors.items
    × ((i : ℕ) → IfSome (slice_get l.doors.items i) (λ d. IsOpenedWith (for_place (map (λ door. drop door.at door.connections) l.self.places.items) i) (ghosts.coming d) (ghosts.finished d) (ghosts.number d)))
