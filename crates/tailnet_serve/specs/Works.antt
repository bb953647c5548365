-- What a worker does: it takes connections from its door one after another, serves each at its seat, and gives it back.
use Rattle.std.specs.Prelude.{◌≡◌, ◌≤◌, ◌<◌, ◌+◌, ℕ, ℤ, Option, List, [], ◌∷◌, length, IfSome}
use Rattle.io_edge.specs.Door.{Finished}
use Rattle.io_edge.specs.Edge.{IsWhereTold, Rose}
use Rattle.desk_front.specs.declared.front_settings.FrontSettings.{FrontSettings}
use Rattle.session_hub.specs.Seats.{SeatView}
use Rattle.tailnet_serve.specs.Runs.{IsSeatRun}
use Rattle.tailnet_serve.specs.Visits.{AreComers, AreVisits, Drawing, Visit, and_all_finished, is_any_starved, visit_turns}
use Rattle.tailnet_serve.specs.declared.worker.Report.{Report}
use Rattle.tailnet_serve.specs.declared.worker.Stop.{Stop}
use Rattle.tailnet_serve.specs.declared.worker.Stop.TheVariants as stop
use Rattle.tailnet_serve.specs.declared.worker.WorkLimits.{WorkLimits}
use Rattle.tailnet_serve.specs.declared.worker.Worker.{Worker}
use Rattle.tailnet_serve.specs.declared.working.Taking.{Taking}
use Rattle.tailnet_serve.specs.declared.working.Taking.TheVariants as taking

-- what a door tells: the connections that come, those given back, with how many it was opened, and its count of faults
pub record DoorTold : Type 0 where
  pub coming : Option (List (List ℕ))
  pub finished : Option (List Finished)
  pub number : Option ℕ
  pub faults : ℕ

-- what is known of a worker
pub record Standing : Type 0 where
  pub seat : SeatView
  pub drawing : Drawing
  pub door : DoorTold

abbrev pub door_told : {D : Type 0} → (D → Option (List (List ℕ))) → (D → Option (List Finished)) → (D → Option ℕ) → (D → ℕ) → D → DoorTold
door_told coming finished number faults d = record { coming = coming d; finished = finished d; number = number d; faults = faults d }

abbrev pub drawing : {C N : Type 0} → (C → ℕ → Option ℤ) → (N → ℕ → Option (List ℕ)) → (N → ℕ) → C → N → Drawing
drawing answer word word_faults c n = record { answers = answer c; words = word n; word_faults = word_faults n }

abbrev pub standing : {K D C N : Type 0} → (D → Option (List (List ℕ))) → (D → Option (List Finished)) → (D → Option ℕ) → (D → ℕ) → (C → ℕ → Option ℤ) → (N → ℕ → Option (List ℕ)) → (N → ℕ) → Worker K D C N → Standing
standing coming finished number faults answer word word_faults w = record {
  seat = w.seat;
  drawing = drawing answer word word_faults w.clock w.entropy;
  door = door_told coming finished number faults w.door;
}

-- the connections that come and those given back are no more than the door was opened with, where all of it is told
abbrev pub HasPlaces : DoorTold → Type 0
HasPlaces d = IfSome d.coming (λ some. IfSome d.finished (λ done. IfSome d.number (λ all. length some + length done ≤ all)))

-- These connections were taken from the door in order, served at the seat, and given back.
pub record IsWork (given : FrontSettings) (limits : WorkLimits) (visits : List Visit) (old new : Standing) : Type 0 where
  pub run : IsSeatRun old.seat new.seat (visit_turns visits)
  pub served : AreVisits given limits.more limits.requests old.drawing visits new.drawing
  pub came : AreComers old.door.coming visits new.door.coming
  pub given_back : new.door.finished ≡ and_all_finished old.door.finished visits
  pub number : new.door.number ≡ old.door.number
  pub places : HasPlaces old.door → HasPlaces new.door
  pub later : old.door.faults ≤ new.door.faults

-- what came of waiting for a connection
abbrev pub IsTaken : Taking → FrontSettings → WorkLimits → Standing → Standing → Type 0
IsTaken (taking.Served closed) given limits old new = (v : Visit) × (v.closed ≡ closed) × IsWork given limits (v ∷ []) old new
IsTaken taking.Over given limits old new = IsWork given limits [] old new × IsWhereTold [] new.door.coming
IsTaken taking.DoorFault given limits old new = IsWork given limits [] old new × Rose old.door.faults new.door.faults

-- why a worker stopped: no connection will come, or it took as many as it may, or its door failed
abbrev pub IsStop : Stop → ℕ → List Visit → DoorTold → DoorTold → Type 0
IsStop stop.Over connections visits old new = IsWhereTold [] new.coming
IsStop stop.Full connections visits old new = (0 < connections) × (length visits ≡ connections)
IsStop stop.DoorFault connections visits old new = Rose old.faults new.faults

-- What a worker did until it stopped. It takes no more connections than it may, where there is a limit.
pub record IsWorked (given : FrontSettings) (limits : WorkLimits) (old new : Standing) (report : Report) : Type 0 where
  pub visits : List Visit
  pub work : IsWork given limits visits old new
  pub stop : IsStop report.stop limits.connections visits old.door new.door
  pub few : 0 < limits.connections → length visits ≤ limits.connections
  pub starved : report.starved ≡ is_any_starved visits
