use Rattle.std.proofs.Common.{Some, subst, sym}
use Rattle.tailnet_desk.specs.Seated.{Seated}
use Rattle.tailnet_desk.specs.Sessions.{AreSoundSessions}
use Rattle.tailnet_desk.specs.Step.{drain_turn}
use Rattle.tailnet_desk.proofs.desk.Desk.send.Goals as goal

pub invariant_of-self : goal.invariant_of-self
invariant_of-self g c =
    let drained = subst (λ o. AreSoundSessions (drain_turn c.args.self.now.state o).state) c.in-Some.is c.requires.sessions in
    let here = subst (λ (d : Seated _). AreSoundSessions (drain_turn d.state (Some c.in-Some.field-0)).state) (sym c.self.view_is) drained in
    record {
      kept = c.self.invariant.kept;
      in_force = c.self.invariant.in_force;
      sessions = rw (c.put_session.ensures.next, c.put_session.ensures.rows) here;
    }
