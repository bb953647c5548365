-- Laws on histories, put on a connection at a seat and on a run.
use Rattle.std.proofs.Common.{◌≡◌, List, Option, None, Some, ap, sym, subst}
use Rattle.std.specs.Prelude.{IfSome}
use Rattle.desk_state.specs.State.{State}
use Rattle.tailnet_desk.specs.Chains.{Chain, Turned}
use Rattle.tailnet_desk.specs.Opening.{opening}
use Rattle.tailnet_desk.specs.Seated.{Point}
use Rattle.session_hub.specs.declared.known.Line.{Line}
use Rattle.session_hub.specs.Lines.{AreLegal, LegalFrom, entries_of}
use Rattle.session_hub.specs.Seats.{SeatView}
use Rattle.tailnet_laws.specs.Followed.{AreFollowed}
use Rattle.tailnet_laws.specs.Gone.{IsGoneMachine}
use Rattle.tailnet_desk.specs.Sessions.{sent_to}
use Rattle.tailnet_desk.specs.Sound.{IsSoundState}
use Rattle.tailnet_laws.proofs.Following.{legal_followed, legal_kept}
use Rattle.tailnet_laws.proofs.GoneIds.{gone_machines_stay}
use Rattle.tailnet_laws.proofs.SoundStates.{kept, ruled}
use Rattle.tailnet_serve.specs.Runs.{IsFollowedFrom, IsSeatFollowed, IsSeatStep}
use Rattle.tailnet_serve.specs.ServiceLaws.{SeatIsFollowed, ServiceLeavesMachinesGone}
use Rattle.tailnet_serve.proofs.SeatRuns.{run_chain}

legal_folds : (start : Option Point) (lines : List Line) → IfSome start (λ p. IsSoundState p.state) → AreLegal start lines → IfSome start (λ p. IsFollowedFrom p lines)
legal_folds None lines sound legal = tt
legal_folds (Some p) lines sound legal = record {
  legal = legal;
  followed = legal_followed p.state p.keeping.faults (entries_of lines) (sent_to p.state.sessions) (ruled p.state sound) (kept p.state sound) legal;
  sessions = (legal_kept p.state p.keeping.faults (entries_of lines) (sent_to p.state.sessions) (ruled p.state sound) (kept p.state sound) legal).sessions;
}

-- at the end of turns of a seat
pub seat_folds : (old new : SeatView) (turns : List Turned) → Chain IsSeatStep old turns new → IfSome old.hub.start (λ p. IsSoundState p.state) → AreLegal old.hub.start old.seen
    → IsSeatFollowed new
seat_folds old new turns chain sound legal =
    let run = run_chain old turns new chain in
    subst (λ o. IfSome o (λ p. IsFollowedFrom p new.seen)) (sym (ap (λ (z : SeatView). z.hub.start) run.new_is))
    (legal_folds old.hub.start new.seen sound (run.legal legal))

-- what a seat has seen is legal still
seen_legal : (old new : SeatView) (turns : List Turned) (start : Point) → Chain IsSeatStep old turns new → old.hub.start ≡ Some start → LegalFrom start old.seen → LegalFrom start new.seen
seen_legal old new turns start chain starts legal =
    subst (λ s. AreLegal s new.seen) starts ((run_chain old turns new chain).legal (subst (λ s. AreLegal s old.seen) (sym starts) legal))

pub seat_followed : SeatIsFollowed
seat_followed given more limit held closed before after old new start talk starts legal sound =
    legal_followed start.state start.keeping.faults (entries_of new.seen) (sent_to start.state.sessions) (ruled start.state sound) (kept start.state sound)
    (seen_legal old new _ start talk.chain starts legal)

pub service_leaves_machines_gone : ServiceLeavesMachinesGone
service_leaves_machines_gone failed starved settings old new run id gone =
    subst (λ (s : State). IsGoneMachine s.rows id) (sym run.legal.state)
    (gone_machines_stay (opening settings.tailnet run.rows run.moment) run.keeping.faults (entries_of run.history) id run.rules run.sound run.legal.legal gone)
