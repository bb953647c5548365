-- What the answers tell, said of connections and of runs.
use Rattle.std.specs.Prelude.{◌≡◌, ℕ, Bool, Option, Some, List, Contains}
use Rattle.std.specs.List.{AllByRecursion}
use Rattle.server_settings.specs.declared.file_settings.FileSettings.{FileSettings}
use Rattle.tailnet_desk.specs.Seated.{Point}
use Rattle.tailnet_desk.specs.Sound.{IsSoundState}
use Rattle.tailnet_desk.specs.Turns.{IsTurn}
use Rattle.session_hub.specs.Lines.{LegalFrom}
use Rattle.session_hub.specs.Seats.{SeatView}
use Rattle.desk_front.specs.Wanted.{front_settings}
use Rattle.desk_front.specs.declared.front_settings.FrontSettings.{FrontSettings}
use Rattle.exit_status.specs.declared.closed.Closed.{Closed}
use Rattle.connections.specs.Connection.{IsConnection, Told}
use Rattle.connections.specs.Exchanges.{Exchange}
use Rattle.tailnet_commands.specs.Outside.{Outside}
use Rattle.tailnet_commands.specs.Run.{Conversation}
use Rattle.tailnet_serve.specs.Runs.{IsSeatStep}
use Rattle.tailnet_serve.specs.Service.{Service, Shift}
use Rattle.tailnet_serve.specs.Visits.{IsVisit, Visit}
use Rattle.byte_laws.specs.Answers.{IsAnswerReadBack}

-- so it is of each exchange
abbrev pub AreAnswersReadBack : FrontSettings → List Exchange → Type 0
AreAnswersReadBack given xs = AllByRecursion (IsAnswerReadBack given) xs

-- of a connection over a desk, whose state is sound
abbrev pub DeskIsReadBack : Type 0
DeskIsReadBack = (given : FrontSettings) (more limit : ℕ) (held : List ℕ) (closed : Closed) (before after : Told) (p q : Point)
    (talk : IsConnection IsTurn given more closed limit held before after p q) → IsSoundState p.state → AreAnswersReadBack given talk.exchanges

-- at a seat, where the desk of its hub was sound when the hub was made
abbrev pub SeatIsReadBack : Type 0
SeatIsReadBack = (given : FrontSettings) (more limit : ℕ) (held : List ℕ) (closed : Closed) (before after : Told) (old new : SeatView) (start : Point)
    (talk : IsConnection IsSeatStep given more closed limit held before after old new) → old.hub.start ≡ Some start → LegalFrom start old.seen → IsSoundState start.state
    → AreAnswersReadBack given talk.exchanges

-- in a run of `pipe`
abbrev pub PipeIsReadBack : Type 0
PipeIsReadBack = (closing : Closed) (settings : FileSettings) (seed : Option (List ℕ)) (old new : Outside) (run : Conversation closing settings seed old new)
    → AreAnswersReadBack (front_settings settings.server) run.serves.exchanges

-- and on each connection in a run of `serve`
abbrev pub ServeIsReadBack : Type 0
ServeIsReadBack = (failed starved : Bool) (settings : FileSettings) (old new : Outside) (run : Service failed starved settings old new)
    (w : Shift) → Contains run.shifts w → (v : Visit) → Contains w.visits v
    → (visit : IsVisit (front_settings settings.server) settings.server.poll_turns settings.server.requests v)
    → AreAnswersReadBack (front_settings settings.server) visit.serves.exchanges
