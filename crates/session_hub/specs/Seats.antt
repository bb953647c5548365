-- What contracts see of a hub and of its seats.
use Rattle.std.specs.Prelude.{◌≡◌, ◌<◌, ◌≤◌, ◌+◌, ℕ, Option, List, [], ◌∷◌, ◌++◌}
use Rattle.atomic_table.specs.Seated.{TableId}
use Rattle.tailnet_desk.specs.Seated.{Point, Seated}
use Rattle.tailnet_desk.specs.declared.entry.Event.{Event}
use Rattle.tailnet_desk.specs.declared.reply.Reply.{Reply}
use Rattle.session_hub.specs.declared.known.Line.{Line}
use Rattle.session_hub.specs.Lines.{AreLegal, StartsWith, lines_by, longer, times}

-- which hub it is, and where its desk stood when it was made
pub record HubView : Type 0 where
  pub table : TableId
  pub start : Option Point

-- a hub, and the desk that it was made of
pub record HubOf (K : Type 0) : Type 0 where
  pub view : HubView
  pub desk : Seated K

-- of which hub a seat is, its name, the names that it answers for, and the history as far as it has seen it
pub record SeatView : Type 0 where
  pub hub : HubView
  pub name : ℕ
  pub names : List ℕ
  pub seen : List Line

-- the seat with more of the history seen
abbrev pub with_seen : SeatView → List Line → SeatView
with_seen s seen = record { hub = s.hub; name = s.name; names = s.names; seen = seen }

-- A turn of a seat: what it had seen begins what it then has seen, which is a legal history that ends with this call
-- under the seat's name. Nothing else was added under any name that the seat answers for, its own among them.
pub record IsSeatTurn (old new : SeatView) (event : Event) (reply : Reply) : Type 0 where
  pub between : List Line
  pub line : Line
  pub new_is : new ≡ with_seen old ((old.seen ++ between) ++ line ∷ [])
  pub legal : AreLegal old.hub.start new.seen
  pub by : line.by ≡ old.name
  pub event_is : line.entry.event ≡ event
  pub reply_is : line.entry.reply ≡ reply
  pub named : 0 < times old.name old.names
  pub others : (n : ℕ) → 0 < times n old.names → lines_by n between ≡ []

-- A seat of the same hub that has seen as much, with a name of its own, for which the other doesn't answer.
pub record IsSplit (old given : SeatView) : Type 0 where
  pub hub : given.hub ≡ old.hub
  pub seen : given.seen ≡ old.seen
  pub names : given.names ≡ given.name ∷ []
  pub apart : times given.name old.names ≡ 0

-- The seat has seen the longer of both histories, which begins with both and has no line more under the names of
-- either. No name was that of both.
pub record IsJoin (old other new : SeatView) : Type 0 where
  pub new_is : new ≡ record { hub = old.hub; name = old.name; names = old.names ++ other.names; seen = longer old.seen other.seen }
  pub mine : StartsWith new.seen old.seen
  pub theirs : StartsWith new.seen other.seen
  pub my_lines : (n : ℕ) → 0 < times n old.names → lines_by n new.seen ≡ lines_by n old.seen
  pub their_lines : (n : ℕ) → 0 < times n other.names → lines_by n new.seen ≡ lines_by n other.seen
  pub apart : (n : ℕ) → times n old.names + times n other.names ≤ 1
