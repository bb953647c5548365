-- Connections that a worker serves, one after another.
use Rattle.std.specs.Prelude.{◌≡◌, ◌||◌, ℕ, ℤ, Bool, true, false, Option, List, [], ◌∷◌}
use Rattle.std.specs.List.{flat_map}
use Rattle.io_edge.specs.Door.{Finished, IsNext, and_finished}
use Rattle.tailnet_desk.specs.Chains.{Turned}
use Rattle.tailnet_desk.specs.declared.entry.Event.{Event}
use Rattle.tailnet_desk.specs.declared.reply.Reply.{Reply}
use Rattle.desk_front.specs.declared.front_settings.FrontSettings.{FrontSettings}
use Rattle.connections.specs.Connection.{IsConnection, Told}
use Rattle.connections.specs.Exchanges.{turns_of}
use Rattle.exit_status.specs.declared.closed.Closed.{Closed}
use Rattle.exit_status.specs.declared.closed.Closed.TheVariants.{End, Early, ReadFault, WriteFault, NoMemory}

-- what the clock and the entropy of a worker tell, and the entropy's count of faults
pub record Drawing : Type 0 where
  pub answers : ℕ → Option ℤ
  pub words : ℕ → Option (List ℕ)
  pub word_faults : ℕ

abbrev pub drawing_in : Told → Drawing
drawing_in t = record { answers = t.giving.answers; words = t.giving.words; word_faults = t.giving.word_faults }

-- A connection: what was told when it came and when it was given back, the turns of its served requests, and how it
-- ended.
pub record Visit : Type 0 where
  pub came : Told
  pub left : Told
  pub turns : List Turned
  pub closed : Closed

-- a turn of any state: which step it is, the history says in which it stands
abbrev pub IsAnyTurn : Unit {0} → Event → Reply → Unit {0} → Type 0
IsAnyTurn before event reply after = Unit {0}

-- The connection was served behind this front, and its turns are those of its served requests.
pub record IsVisit (given : FrontSettings) (more requests : ℕ) (v : Visit) : Type 0 where
  pub serves : IsConnection IsAnyTurn given more v.closed requests [] v.came v.left tt tt
  pub turns_are : v.turns ≡ turns_of serves.exchanges

-- each begins with what the clock and the entropy told when the one before it was given back
abbrev pub AreVisits : FrontSettings → ℕ → ℕ → Drawing → List Visit → Drawing → Type 0
AreVisits given more requests before [] after = after ≡ before
AreVisits given more requests before (v ∷ vs) after =
    (drawing_in v.came ≡ before) × IsVisit given more requests v × AreVisits given more requests (drawing_in v.left) vs after

-- they came at a door in this order, where it tells what comes, each with nothing written and no fault
abbrev pub AreComers : Option (List (List ℕ)) → List Visit → Option (List (List ℕ)) → Type 0
AreComers coming [] behind = behind ≡ coming
AreComers coming (v ∷ vs) behind =
    (next : Option (List (List ℕ)))
    × IsNext v.came.left v.came.giving.held coming next
    × (v.came.read_faults ≡ 0)
    × (v.came.giving.write_faults ≡ 0)
    × AreComers next vs behind

-- what a door records of the connection
abbrev pub finished_of : Visit → Finished
finished_of v = record {
  left = v.left.left;
  holds = v.left.giving.held;
  read_faults = v.left.read_faults;
  write_faults = v.left.giving.write_faults;
}

-- what it has recorded when all were given back, in order
abbrev pub and_all_finished : Option (List Finished) → List Visit → Option (List Finished)
and_all_finished finished [] = finished
and_all_finished finished (v ∷ vs) = and_all_finished (and_finished finished (finished_of v)) vs

abbrev pub visit_turns : List Visit → List Turned
visit_turns vs = flat_map (λ (v : Visit). v.turns) vs

-- the connection ended because memory was refused
abbrev pub is_starved : Closed → Bool
is_starved End = false
is_starved Early = false
is_starved ReadFault = false
is_starved WriteFault = false
is_starved NoMemory = true

-- one of them did
abbrev pub is_any_starved : List Visit → Bool
is_any_starved [] = false
is_any_starved (v ∷ vs) = is_starved v.closed || is_any_starved vs
