-- What the clients of polls at a desk have.
use Rattle.std.specs.Prelude.{List}
use Rattle.tailnet_desk.specs.Chains.{Chain, IsHistory, Turned}
use Rattle.tailnet_desk.specs.Seated.{Point}
use Rattle.tailnet_desk.specs.Sessions.{AreSoundSessions, sent_to}
use Rattle.tailnet_desk.specs.Turns.{IsTurn}
use Rattle.tailnet_laws.specs.Followed.{AreFollowed}

-- Turns that lead from one to the other are a legal history, after each of whose drains the client of the session has
-- folded its machine's map, computed afresh; before them each had what was sent to it. Sessions keep their rules in it.
abbrev pub AreTurnsFollowed : Point → Point → Type 0
AreTurnsFollowed p q = (turns : List Turned) → Chain IsTurn p turns q
    → (history : IsHistory p turns q) × AreFollowed p.state (sent_to p.state.sessions) history.entries × AreSoundSessions q.state
