-- What a hub's workers did: one legal history, for every schedule of their threads.
use Rattle.std.specs.Prelude.{◌≡◌, ◌≤◌, ◌<◌, ◌+◌, ◌⊎◌, ◌||◌, ℕ, ℤ, Bool, true, false, Option, None, Some, List, [], ◌∷◌, length, map, IfSome, IsSome}
use Rattle.std.specs.Option.{option_map}
use Rattle.net_addr.specs.Moments.{clamped}
use Rattle.io_edge.specs.Asked.{and_asked}
use Rattle.io_edge.specs.Door.{IsToldOfEach, Opening}
use Rattle.io_edge.specs.Edge.{Rose, RoseBy, IsWhereTold, StillTells}
use Rattle.io_edge.specs.declared.faults.EdgeFault.{EdgeFault}
use Rattle.io_edge.specs.declared.faults.EdgeFault.TheVariants.{Failed, NoMemory}
use Rattle.net_rows.specs.Sound.{AreSound}
use Rattle.net_rows.specs.declared.rows.Rows.{Rows}
use Rattle.settings.specs.Settings.{AreSettings}
use Rattle.server_settings.specs.declared.fields.ServerFields.{ServerFields}
use Rattle.server_settings.specs.declared.file_settings.FileSettings.{FileSettings}
use Rattle.tailnet_desk.specs.Opening.{opening}
use Rattle.tailnet_desk.specs.Seated.{IsInForce, Keeping, Point}
use Rattle.tailnet_laws.specs.Followed.{AreFollowed}
use Rattle.desk_front.specs.Wanted.{front_settings}
use Rattle.desk_front.specs.declared.front_settings.FrontSettings.{FrontSettings}
use Rattle.session_hub.specs.declared.known.Line.{Line}
use Rattle.session_hub.specs.Seats.{HubView}
use Rattle.session_hub.specs.Lines.{IsReplayOf, entries_of, lines_by, times}
use Rattle.connections.specs.Tellings.{from_number}
use Rattle.tailnet_commands.specs.Opened.{OpenerTold}
use Rattle.tailnet_commands.specs.Outside.{DoorsTold, Outside}
use Rattle.tailnet_commands.specs.Run.{IsAskedFor}
use Rattle.tailnet_serve.specs.Crews.{IsOpenedAt, IsSplitDrawing, is_door_fault}
use Rattle.tailnet_serve.specs.Runs.{turns_by}
use Rattle.tailnet_serve.specs.Visits.{AreComers, AreVisits, Drawing, Visit, and_all_finished, is_any_starved, visit_turns}
use Rattle.tailnet_serve.specs.Works.{DoorTold, IsStop}
use Rattle.tailnet_serve.specs.declared.serve_end.ServeEnd.{ServeEnd}
use Rattle.tailnet_serve.specs.declared.serve_end.ServeEnd.TheVariants as end
use Rattle.tailnet_serve.specs.declared.worker.Stop.{Stop}
use Rattle.tailnet_serve.specs.declared.worker.WorkLimits.{WorkLimits}

-- What a worker did: under which name, the connections that it served, why it stopped, and what was told of its clock,
-- its entropy and its door before and after.
pub record Shift : Type 0 where
  pub name : ℕ
  pub visits : List Visit
  pub stop : Stop
  pub drawing : Drawing
  pub drawing_after : Drawing
  pub door : DoorTold
  pub door_after : DoorTold

-- Under the worker's name the history has exactly the turns of the requests that were served on its door's connections,
-- in order, each connection as the loop says. Its clock and its entropy told what they told at the split.
pub record IsShift (given : FrontSettings) (limits : WorkLimits) (told : Option (List (List (List ℕ)))) (start : Drawing) (history : List Line) (place : ℕ) (w : Shift) : Type 0 where
  pub own : turns_by w.name history ≡ visit_turns w.visits
  pub split : IsSplitDrawing start w.drawing
  pub opened : IsOpenedAt told place w.door
  pub served : AreVisits given limits.more limits.requests w.drawing w.visits w.drawing_after
  pub came : AreComers w.door.coming w.visits w.door_after.coming
  pub given_back : w.door_after.finished ≡ and_all_finished w.door.finished w.visits
  pub stops : IsStop w.stop limits.connections w.visits w.door w.door_after
  pub few : 0 < limits.connections → length w.visits ≤ limits.connections

-- so it is for the worker of each place
abbrev pub AreShifts : FrontSettings → WorkLimits → Option (List (List (List ℕ))) → Drawing → List Line → ℕ → List Shift → Type 0
AreShifts given limits told start history place [] = Unit {0}
AreShifts given limits told start history place (w ∷ ws) =
    IsShift given limits told start history place w × AreShifts given limits told start history (place + 1) ws

abbrev pub shift_names : List Shift → List ℕ
shift_names ws = map (λ (w : Shift). w.name) ws

-- There is one history, in which stand the turns of all workers and nothing else, each under its own name.
pub record IsShared (given : FrontSettings) (limits : WorkLimits) (told : Option (List (List (List ℕ)))) (start : Drawing) (history : List Line) (shifts : List Shift) : Type 0 where
  pub each : AreShifts given limits told start history 0 shifts
  pub apart : (n : ℕ) → times n (shift_names shifts) ≤ 1
  pub others : (n : ℕ) → times n (shift_names shifts) ≡ 0 → lines_by n history ≡ []

-- whether a door failed, and whether a connection ended because memory was refused
abbrev pub any_failed : List Shift → Bool
any_failed [] = false
any_failed (w ∷ ws) = is_door_fault w.stop || any_failed ws

abbrev pub any_starved : List Shift → Bool
any_starved [] = false
any_starved (w ∷ ws) = is_any_starved w.visits || any_starved ws

-- how often draws of the workers failed
abbrev pub word_faults_of : List Shift → ℕ
word_faults_of [] = 0
word_faults_of (w ∷ ws) = w.drawing_after.word_faults + word_faults_of ws

-- these doors were just opened, the first of them at this place
abbrev pub AreOpenedAt : Option (List (List (List ℕ))) → ℕ → List DoorTold → Type 0
AreOpenedAt told place [] = Unit {0}
AreOpenedAt told place (d ∷ ds) = IsOpenedAt told place d × AreOpenedAt told (place + 1) ds

-- The workers of a hub have stopped, and its desk stands at the end of the history that they share.
pub record IsManned (given : FrontSettings) (limits : WorkLimits) (told : Option (List (List (List ℕ)))) (start : Drawing) (failed starved : Bool) (hub : HubView) (workers : ℕ) (left : List DoorTold) (final : Point) (word_faults word_faults_after : ℕ) : Type 0 where
  pub history : List Line
  pub stands : IfSome hub.start (λ begin. IsReplayOf begin history final)
  pub shifts : List Shift
  pub shared : IsShared given limits told start history shifts
  pub failed_is : failed ≡ any_failed shifts
  pub starved_is : starved ≡ any_starved shifts
  pub left_is : left ≡ map (λ (w : Shift). w.door_after) shifts
  pub number : length shifts ≡ workers
  pub words_rose : RoseBy (word_faults_of shifts) word_faults word_faults_after

-- the settings under which workers serve
abbrev pub limits_of : ServerFields → WorkLimits
limits_of settings = record { connections = settings.connections; requests = settings.requests; more = settings.poll_turns }

-- what the clock and the entropy tell after the clock's first answer
abbrev pub left_drawing : Outside → Drawing
left_drawing old = record {
  answers = from_number 1 old.told.giving.answers;
  words = old.told.giving.words;
  word_faults = old.told.giving.word_faults;
}

-- doors were asked once, for this
abbrev pub AreAskedFor : Opening → DoorsTold → DoorsTold → Type 0
AreAskedFor wanted old new = new.asked ≡ and_asked old.asked wanted

-- and that is the address and the number of workers of the settings
abbrev pub AreDoorsAsked : FileSettings → DoorsTold → DoorsTold → Type 0
AreDoorsAsked settings old new = AreAskedFor (record { address = settings.server.listen; count = settings.tailnet.workers }) old new

-- The workers have served a desk that was opened at the clock's first answer, until each had stopped. Its tables keep
-- their rules, at the beginning and at the end.
pub record Service (failed starved : Bool) (settings : FileSettings) (old new : Outside) : Type 0 where
  pub rules : AreSettings settings.tailnet
  pub rows : Rows
  pub sound : AreSound rows
  pub asked : IsAskedFor settings old new
  pub rows_told : IsSome new.rows → IsWhereTold rows old.rows
  pub moment : ℤ
  pub moment_told : IsWhereTold moment (option_map clamped (old.told.giving.answers 0))
  -- what is known of the keeper after the load, and the state and the keeper at the end
  pub keeping : Keeping
  pub final : Point
  -- a legal history from the opening state, at whose end the tables stand
  pub history : List Line
  pub legal : IsReplayOf (record { state = opening settings.tailnet rows moment; keeping = keeping }) history final
  -- what the client of each session has folded after a drain is its machine's map, computed afresh
  pub followed : AreFollowed (opening settings.tailnet rows moment) (λ handle. None) (entries_of history)
  pub shifts : List Shift
  pub number : length shifts ≡ settings.tailnet.workers
  pub shared : IsShared (front_settings settings.server) (limits_of settings.server) old.doors.coming (left_drawing old) history shifts
  pub failed_is : failed ≡ any_failed shifts
  pub starved_is : starved ≡ any_starved shifts
  pub doors_asked : AreDoorsAsked settings old.doors new.doors
  pub doors_left : IsToldOfEach (map (λ (w : Shift). w.door_after.coming) shifts) new.doors.coming
  pub doors_finished : IsToldOfEach (map (λ (w : Shift). w.door_after.finished) shifts) new.doors.finished
  pub doors_rose : failed ≡ true → Rose old.doors.faults new.doors.faults
  -- each failed draw has raised the count
  pub words_rose : RoseBy (word_faults_of shifts) old.told.giving.word_faults new.told.giving.word_faults
  -- the policy in force is the one that the tables keep
  pub in_force : IsInForce final.state.rows final.state.policy
  pub final_sound : AreSound final.state.rows
  pub final_rows : IsWhereTold final.state.rows new.rows
  pub rose : RoseBy final.keeping.faults old.keeper_faults new.keeper_faults

-- What came of serving a desk at open doors: the workers have stopped, or memory was refused before they began; the
-- opener and the doors have back what they gave.
pub record IsDeskServed (given : FrontSettings) (limits : WorkLimits) (told : Option (List (List (List ℕ)))) (start : Drawing) (failed starved : Bool) (workers : ℕ) (at : Point) (opener opener_after : OpenerTold) (doors doors_after : DoorsTold) (word_faults word_faults_after : ℕ) : Type 0 where
  pub hub : HubView
  pub starts : hub.start ≡ Some at
  pub left : List DoorTold
  pub final : Point
  pub manned : IsManned given limits told start failed starved hub workers left final word_faults word_faults_after
  pub rows : IsWhereTold final.state.rows opener_after.rows
  pub given_back : StillTells final.keeping.told opener_after.rows
  pub asked : opener_after.asked ≡ opener.asked
  pub rose : RoseBy final.keeping.faults opener.faults opener_after.faults
  pub doors_left : IsToldOfEach (map (λ (d : DoorTold). d.coming) left) doors_after.coming
  pub doors_finished : IsToldOfEach (map (λ (d : DoorTold). d.finished) left) doors_after.finished
  pub doors_asked : doors_after.asked ≡ doors.asked
  pub doors_later : failed ≡ true → Rose doors.faults doors_after.faults

-- the opener got its keeper back as it was
pub record IsDeskClosed (at : Point) (opener opener_after : OpenerTold) : Type 0 where
  pub told : StillTells at.keeping.told opener_after.rows
  pub asked : opener_after.asked ≡ opener.asked

abbrev pub IsEndAtDoors : ServeEnd → FrontSettings → WorkLimits → Option (List (List (List ℕ))) → Drawing → ℕ → Point → OpenerTold → OpenerTold → DoorsTold → DoorsTold → ℕ → ℕ → Type 0
IsEndAtDoors (end.Unopened e) given limits told start workers at opener opener_after doors doors_after before after = ⊥
IsEndAtDoors end.EntropyFault given limits told start workers at opener opener_after doors doors_after before after = ⊥
IsEndAtDoors end.DoorFault given limits told start workers at opener opener_after doors doors_after before after = ⊥
IsEndAtDoors end.NoMemory given limits told start workers at opener opener_after doors doors_after before after =
    IsDeskClosed at opener opener_after × (doors_after.asked ≡ doors.asked)
IsEndAtDoors (end.Served failed starved) given limits told start workers at opener opener_after doors doors_after before after =
    IsDeskServed given limits told start failed starved workers at opener opener_after doors doors_after before after

abbrev pub end_of_doors : EdgeFault → ServeEnd
end_of_doors Failed = end.DoorFault
end_of_doors NoMemory = end.NoMemory

abbrev pub end_of_outfits : EdgeFault → ServeEnd
end_of_outfits Failed = end.EntropyFault
end_of_outfits NoMemory = end.NoMemory

-- What came of opening doors and serving a desk at them.
abbrev pub IsEndWithOutfits : ServeEnd → Opening → FrontSettings → WorkLimits → Drawing → Point → OpenerTold → OpenerTold → DoorsTold → DoorsTold → ℕ → ℕ → Type 0
IsEndWithOutfits (end.Unopened e) wanted given limits start at opener opener_after doors doors_after before after = ⊥
IsEndWithOutfits end.EntropyFault wanted given limits start at opener opener_after doors doors_after before after = ⊥
IsEndWithOutfits end.DoorFault wanted given limits start at opener opener_after doors doors_after before after =
    IsDeskClosed at opener opener_after × AreAskedFor wanted doors doors_after × Rose doors.faults doors_after.faults
IsEndWithOutfits end.NoMemory wanted given limits start at opener opener_after doors doors_after before after =
    IsDeskClosed at opener opener_after × ((doors_after.asked ≡ doors.asked) ⊎ AreAskedFor wanted doors doors_after)
IsEndWithOutfits (end.Served failed starved) wanted given limits start at opener opener_after doors doors_after before after =
    (opened : DoorsTold) × AreAskedFor wanted doors opened × (doors.faults ≤ opened.faults)
    × IsDeskServed given limits doors.coming start failed starved wanted.count at opener opener_after opened doors_after before after
