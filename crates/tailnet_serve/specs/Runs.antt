-- What a seat adds to the history by several turns.
use Rattle.std.specs.Prelude.{◌≡◌, ℕ, List, ◌++◌, map, IfSome}
use Rattle.tailnet_desk.specs.Chains.{Turned, turned_of}
use Rattle.tailnet_desk.specs.History.{replay}
use Rattle.tailnet_desk.specs.Seated.{Point}
use Rattle.tailnet_desk.specs.Sessions.{AreSoundSessions, sent_to}
use Rattle.tailnet_desk.specs.declared.entry.Event.{Event}
use Rattle.tailnet_desk.specs.declared.reply.Reply.{Reply}
use Rattle.session_hub.specs.declared.known.Line.{Line}
use Rattle.session_hub.specs.Lines.{AreLegal, LegalFrom, StartsWith, entries_of, lines_by}
use Rattle.session_hub.specs.Seats.{IsSeatTurn, SeatView, with_seen}
use Rattle.tailnet_laws.specs.Followed.{AreFollowed}

-- a turn of a seat, from what it had seen to what it then has seen
abbrev pub IsSeatStep : SeatView → Event → Reply → SeatView → Type 0
IsSeatStep old event reply new = IsSeatTurn old new event reply

-- the turns under a name
abbrev pub turns_by : ℕ → List Line → List Turned
turns_by name lines = map (λ (l : Line). turned_of l.entry) (lines_by name lines)

-- The seat has seen more of the history, in which these are the further turns under its name.
pub record IsSeatRun (old new : SeatView) (turns : List Turned) : Type 0 where
  pub new_is : new ≡ with_seen old new.seen
  pub more : StartsWith new.seen old.seen
  pub own : turns_by old.name new.seen ≡ turns_by old.name old.seen ++ turns
  pub legal : AreLegal old.hub.start old.seen → AreLegal old.hub.start new.seen

-- A history that is legal from where a desk stood, after each of whose drains the client of the session has folded its
-- machine's map, computed afresh; before it each had what was sent to it. Sessions keep their rules in it.
pub record IsFollowedFrom (start : Point) (lines : List Line) : Type 0 where
  pub legal : LegalFrom start lines
  pub followed : AreFollowed start.state (sent_to start.state.sessions) (entries_of lines)
  pub sessions : AreSoundSessions (replay start.state (entries_of lines))

-- so is what a seat has seen, from where its hub's desk stood when the hub was made
abbrev pub IsSeatFollowed : SeatView → Type 0
IsSeatFollowed s = IfSome s.hub.start (λ start. IsFollowedFrom start s.seen)
