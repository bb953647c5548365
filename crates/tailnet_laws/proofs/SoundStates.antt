-- Laws on histories, put on the turns from a sound state on.
use Rattle.std.proofs.Common.{List, sym, subst}
use Rattle.net_rows.proofs.Sounds.{no_damage}
use Rattle.desk_state.specs.State.{State}
use Rattle.tailnet_desk.specs.Chains.{Chain, IsHistory, Turned}
use Rattle.tailnet_desk.specs.Seated.{Point}
use Rattle.tailnet_desk.specs.Sessions.{AreSoundSessions, sent_to}
use Rattle.tailnet_desk.specs.Sound.{IsSoundState}
use Rattle.tailnet_desk.specs.Turns.{IsTurn}
use Rattle.tailnet_desk.proofs.Histories.{history_of}
use Rattle.tailnet_desk.proofs.SessionRules.{AreKept, sent_held}
use Rattle.tailnet_laws.specs.Followed.{AreFollowed}
use Rattle.tailnet_laws.proofs.Following.{AreRuled, legal_followed, legal_kept}

pub ruled : (s : State) → IsSoundState s → AreRuled s
ruled s sound = record { settings = sound.settings; rows = no_damage s.rows sound.rows; policy = sound.in_force }

pub kept : (s : State) → IsSoundState s → AreKept s (sent_to s.sessions)
kept s sound = record { sessions = sound.sessions; held = sent_held s sound.sessions }

pub chain_followed : (p : Point) (turns : List Turned) (q : Point) → Chain IsTurn p turns q → IsSoundState p.state
    → (history : IsHistory p turns q) × AreFollowed p.state (sent_to p.state.sessions) history.entries × AreSoundSessions q.state
chain_followed p turns q chain sound =
    let history = history_of p turns q chain in (
      history,
      legal_followed p.state p.keeping.faults history.entries (sent_to p.state.sessions) (ruled p.state sound) (kept p.state sound) history.legal,
      subst AreSoundSessions (sym history.state)
          (legal_kept p.state p.keeping.faults history.entries (sent_to p.state.sessions) (ruled p.state sound) (kept p.state sound) history.legal).sessions,
    )
