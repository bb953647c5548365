use Rattle.std.proofs.Common.{◌≡◌, Ok, subst}
use Rattle.desk_state.specs.State.{State}
use Rattle.machine_asks.specs.Attach.{attach}
use Rattle.tailnet_desk.proofs.SessionSteps.{attach_sessions}
use Rattle.tailnet_desk.proofs.TurnLemmas.{state_with}
use Rattle.tailnet_desk.proofs.desk.Desk.attach.Goals as goal

pub enter-requires : goal.enter-requires
enter-requires g c =
    let desk = c.self.inside in
    let now = c.or_later-self-inside.result in
    let s = state_with desk.settings desk.tables.rows desk.policy desk.presence.0 desk.sessions.rows.0 desk.sessions.attached.0 desk.sessions.next now in
    let is = subst (λ (x : State). attach x c.args.machine.now c.args.node.now c.args.handle.now c.args.seq c.args.words ≡ Ok c.in-Ok.decision) c.snapshot-at.ensures.value c.in-Ok.ensures.value in
    record { sessions = attach_sessions s c.args.machine.now c.args.node.now c.args.handle.now c.args.seq c.args.words c.in-Ok.decision c.self.invariant.sessions is }
