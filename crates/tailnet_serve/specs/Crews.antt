-- Workers of one hub: what they begin with, and what joining them leaves.
use Rattle.std.specs.Prelude.{◌≡◌, ◌+◌, ◌||◌, ℕ, Bool, true, false, List, [], ◌∷◌, IfSome, Option}
use Rattle.io_edge.specs.Door.{IsOpenedWith, for_place}
use Rattle.session_hub.specs.Seats.{HubView, IsJoin, IsSplit, SeatView}
use Rattle.tailnet_serve.specs.Visits.{Drawing}
use Rattle.tailnet_serve.specs.Works.{DoorTold, HasPlaces}
use Rattle.tailnet_serve.specs.declared.outfits.Outfit.{Outfit}
use Rattle.tailnet_serve.specs.declared.worker.Stop.{Stop}
use Rattle.tailnet_serve.specs.declared.worker.Stop.TheVariants as stop
use Rattle.tailnet_serve.specs.declared.worker.Worker.{Worker}

-- both tell the same answers and the same words
pub record TellsSame (one other : Drawing) : Type 0 where
  pub answers : (k : ℕ) → other.answers k ≡ one.answers k
  pub words : (k : ℕ) → other.words k ≡ one.words k

-- a clock and an entropy that were split from others
abbrev pub IsSplitDrawing : Drawing → Drawing → Type 0
IsSplitDrawing start given = TellsSame start given × (given.word_faults ≡ 0)

-- a door that was just opened at this place
pub record IsOpenedAt (told : Option (List (List (List ℕ)))) (place : ℕ) (door : DoorTold) : Type 0 where
  pub opened : IfSome told (λ all. IsOpenedWith (for_place all place) door.coming door.finished door.number)
  pub fresh : door.faults ≡ 0

-- each worker has a seat that was split from the first, the next door, and the next clock and entropy
abbrev pub AreSeated : {K D C N : Type 0} → SeatView → List D → List (Outfit C N) → List (Worker K D C N) → Type 0
AreSeated first [] [] [] = Unit {0}
AreSeated first (d ∷ ds) (o ∷ os) (w ∷ ws) =
    IsSplit first w.seat × (w.door ≡ d) × (w.clock ≡ o.clock) × (w.entropy ≡ o.entropy) × AreSeated first ds os ws
AreSeated first _ _ _ = ⊥

-- the worker sits at this hub, and its door has a place for each connection
abbrev pub IsReady : HubView → SeatView → DoorTold → Type 0
IsReady hub seat door = (seat.hub ≡ hub) × HasPlaces door

-- these seats were joined into one, one after another
abbrev pub AreJoined : SeatView → List SeatView → SeatView → Type 0
AreJoined seat [] joined = joined ≡ seat
AreJoined seat (s ∷ ss) joined = (between : SeatView) × IsJoin seat s between × AreJoined between ss joined

abbrev pub is_door_fault : Stop → Bool
is_door_fault stop.Over = false
is_door_fault stop.Full = false
is_door_fault stop.DoorFault = true

-- the door of one of them failed
abbrev pub is_any_failed : {K D C N : Type 0} → List (Worker K D C N) → Bool
is_any_failed [] = false
is_any_failed (w ∷ ws) = is_door_fault w.report.stop || is_any_failed ws

-- one of them had a connection that ended because memory was refused
abbrev pub has_any_starved : {K D C N : Type 0} → List (Worker K D C N) → Bool
has_any_starved [] = false
has_any_starved (w ∷ ws) = w.report.starved || has_any_starved ws

-- how often draws of theirs failed
abbrev pub all_word_faults : {K D C N : Type 0} → (N → ℕ) → List (Worker K D C N) → ℕ
all_word_faults word_faults [] = 0
all_word_faults word_faults (w ∷ ws) = word_faults w.entropy + all_word_faults word_faults ws
