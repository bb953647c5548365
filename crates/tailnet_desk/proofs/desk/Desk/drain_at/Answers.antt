use Rattle.std.proofs.Common.{◌≡◌, ◌∙◌, None, ap, sym, subst}
use Rattle.net_rows.specs.Damage.{damage}
use Rattle.desk_state.specs.State.{State}
use Rattle.machine_asks.specs.Drain.{drain}
use Rattle.tailnet_desk.specs.Seated.{Seated}
use Rattle.tailnet_desk.specs.Step.{drain_reply}
use Rattle.tailnet_desk.proofs.SessionLemmas.{drained_at}
use Rattle.tailnet_desk.proofs.SessionSteps.{drain_sessions}
use Rattle.tailnet_desk.proofs.TurnLemmas.{at_later, state_with}
use Rattle.tailnet_desk.proofs.desk.Desk.drain_at.Goals as goal

pub send-requires-clause-sessions : goal.send-requires-clause-sessions
send-requires-clause-sessions g c =
    let desk = c.self.inside in
    let now = c.or_later-self-inside.result in
    let s = state_with desk.settings desk.tables.rows desk.policy desk.presence.0 desk.sessions.rows.0 desk.sessions.attached.0 desk.sessions.next now in
    let tables_hold = subst (λ (x : State). damage x.rows ≡ None) c.snapshot-at.ensures.value c.keep_rules.ensures.tables in
    let is = subst (λ (x : State). c.in-Ok.decision ≡ drain x c.args.machine.now c.args.handle.now) c.snapshot-at.ensures.value c.in-Ok.ensures.value in
    drain_sessions s c.args.machine.now c.args.handle.now c.in-Ok.decision tables_hold c.self.invariant.sessions (sym is)

pub returns-in-Ok : goal.returns-in-Ok
returns-in-Ok g c =
    let desk = c.self.inside in
    let now = c.or_later-self-inside.result in
    let s = state_with desk.settings desk.tables.rows desk.policy desk.presence.0 desk.sessions.rows.0 desk.sessions.attached.0 desk.sessions.next now in
    let later = at_later desk.settings desk.tables.rows desk.policy desk.presence.0 desk.sessions.rows.0 desk.sessions.attached.0 desk.sessions.next desk.time now c.args.moment c.args.self.now.state
    c.or_later-self-inside.ensures.value (ap (λ (d : Seated _). d.state) c.self.view_is) in
    let is = subst (λ (x : State). c.in-Ok.decision ≡ drain x c.args.machine.now c.args.handle.now) c.snapshot-at.ensures.value c.in-Ok.ensures.value in
    let same = c.send.ensures.keeper ∙ ap (λ (d : Seated _). d.keeper) c.self.view_is in
    record {
      turn = drained_at g.K.Keeper.told g.K.Keeper.faults g.K.Keeper.calls c.args.self.now c.send.new.self s c.args.moment later same c.send.ensures.told
          c.args.machine.now c.args.handle.now c.in-Ok.decision (drain_reply c.send.result) is c.send.ensures.state c.send.ensures.reply;
      keeper = same;
    }
