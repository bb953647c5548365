-- What holds of each legal history, said of a connection over a desk and of a run of `pipe`.
use Rattle.std.specs.Prelude.{ℕ, Option, List}
use Rattle.desk_front.specs.declared.front_settings.FrontSettings.{FrontSettings}
use Rattle.exit_status.specs.declared.closed.Closed.{Closed}
use Rattle.server_settings.specs.declared.file_settings.FileSettings.{FileSettings}
use Rattle.tailnet_desk.specs.Chains.{IsHistory}
use Rattle.tailnet_desk.specs.Seated.{Point}
use Rattle.tailnet_desk.specs.Turns.{IsTurn}
use Rattle.tailnet_laws.specs.Followed.{AreFollowed}
use Rattle.tailnet_laws.specs.Gone.{IsGoneMachine}
use Rattle.tailnet_desk.specs.Sessions.{AreSoundSessions, sent_to}
use Rattle.tailnet_desk.specs.Sound.{IsSoundState}
use Rattle.connections.specs.Connection.{IsConnection, Told}
use Rattle.connections.specs.Exchanges.{turns_of}
use Rattle.tailnet_commands.specs.Outside.{Outside}
use Rattle.tailnet_commands.specs.Run.{Conversation}

-- The turns of a connection over a desk are a legal history, after each of whose drains the client of the session has
-- folded its machine's map, computed afresh; and sessions keep their rules in it.
abbrev pub DeskIsFollowed : Type 0
DeskIsFollowed = (given : FrontSettings) (more limit : ℕ) (held : List ℕ) (closed : Closed) (before after : Told) (p q : Point)
    (talk : IsConnection IsTurn given more closed limit held before after p q) → IsSoundState p.state
    → (history : IsHistory p (turns_of talk.exchanges) q) × AreFollowed p.state (sent_to p.state.sessions) history.entries × AreSoundSessions q.state

-- an id of a machine that had gone when the desk was opened is no machine's at the end
abbrev pub LeavesMachinesGone : Type 0
LeavesMachinesGone = (closing : Closed) (settings : FileSettings) (seed : Option (List ℕ)) (old new : Outside) (run : Conversation closing settings seed old new) (id : ℕ)
    → IsGoneMachine run.rows id → IsGoneMachine run.final.state.rows id
