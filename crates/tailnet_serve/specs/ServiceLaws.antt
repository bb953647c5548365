-- What holds of each legal history, said of a connection at a seat and of a run of `serve`.
use Rattle.std.specs.Prelude.{◌≡◌, ℕ, Bool, Option, Some, List}
use Rattle.desk_front.specs.declared.front_settings.FrontSettings.{FrontSettings}
use Rattle.exit_status.specs.declared.closed.Closed.{Closed}
use Rattle.server_settings.specs.declared.file_settings.FileSettings.{FileSettings}
use Rattle.tailnet_desk.specs.Seated.{Point}
use Rattle.session_hub.specs.Lines.{LegalFrom, entries_of}
use Rattle.session_hub.specs.Seats.{SeatView}
use Rattle.tailnet_laws.specs.Followed.{AreFollowed}
use Rattle.tailnet_laws.specs.Gone.{IsGoneMachine}
use Rattle.tailnet_desk.specs.Sessions.{sent_to}
use Rattle.tailnet_desk.specs.Sound.{IsSoundState}
use Rattle.connections.specs.Connection.{IsConnection, Told}
use Rattle.tailnet_commands.specs.Outside.{Outside}
use Rattle.tailnet_serve.specs.Runs.{IsSeatStep}
use Rattle.tailnet_serve.specs.Service.{Service}

-- After each drain in the history that a seat has seen at the end of a connection, the client of the session has folded
-- its machine's map, computed afresh, if its hub's desk was sound when the hub was made.
abbrev pub SeatIsFollowed : Type 0
SeatIsFollowed = (given : FrontSettings) (more limit : ℕ) (held : List ℕ) (closed : Closed) (before after : Told) (old new : SeatView) (start : Point)
    → IsConnection IsSeatStep given more closed limit held before after old new → old.hub.start ≡ Some start → LegalFrom start old.seen → IsSoundState start.state
    → AreFollowed start.state (sent_to start.state.sessions) (entries_of new.seen)

-- an id of a machine that had gone when the desk was opened is no machine's at the end
abbrev pub ServiceLeavesMachinesGone : Type 0
ServiceLeavesMachinesGone = (failed starved : Bool) (settings : FileSettings) (old new : Outside) (run : Service failed starved settings old new) (id : ℕ)
    → IsGoneMachine run.rows id → IsGoneMachine run.final.state.rows id
