use Rattle.std.proofs.Common.{rules, ◌≡◌, ℕ, drop, length, map, slice_get, subst, sym, List, ◌<◌, slice_index_or}
use Rattle.std.specs.Prelude.{IfSome}
use Rattle.io_edge.specs.Door.{IsOpenedWith, for_place}
use Rattle.memory_edge.specs.contracts.door.MemoryDoorDoor.TheImpl.{ghosts}
use Rattle.memory_edge.specs.declared.door.MemoryDoor.{MemoryDoor}
use Rattle.memory_edge.proofs.Each.{all_snoc, each_snoc}
use Rattle.memory_edge.proofs.doors.MemoryDoors.doors_for.Goals as goal

pub loop-place-preserved : goal.loop-place-preserved
loop-place-preserved c =
    let doors = c.loop-place.doors.items in
    let door = c.in_ok-door_for.field-0 in
    let told = map (λ d. drop d.at d.connections) c.args.self.now.places.items in
    let Opened : ℕ → MemoryDoor → Type 0 = λ i d. IsOpenedWith (for_place told i) (ghosts.coming d) (ghosts.finished d) (ghosts.number d) in
    let pushed = c.in_ok-push.ensures.items in (
      search rules,
      subst (λ (ds : List MemoryDoor). (k : ℕ) (d : MemoryDoor) → k < length ds → ghosts.faults (slice_index_or ds k d) ≡ 0) (sym pushed)
          (all_snoc (λ d. ghosts.faults d ≡ 0) doors door c.loop-place.invariant.1 c.in_ok-door_for.ensures.fresh),
      subst (λ (ds : List MemoryDoor). (i : ℕ) → IfSome (slice_get ds i) (Opened i)) (sym pushed)
          (each_snoc Opened doors door c.loop-place.invariant.2 (subst (λ i. Opened i door) (sym c.loop-place.invariant.0) c.in_ok-door_for.ensures.opened)),
    )
