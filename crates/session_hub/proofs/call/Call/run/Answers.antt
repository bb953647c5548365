use Rattle.tailnet_desk.proofs.KeptTurns.{poll_kept}
use Rattle.session_hub.proofs.call.Call.run.Goals as goal

pub returns-in-Attach-clause-kept : goal.returns-in-Attach-clause-kept
returns-in-Attach-clause-kept g c = rw c.in-Attach.is (poll_kept g.K.Keeper.told g.K.Keeper.faults g.K.Keeper.calls g.K.Keeper.is_clean g.K.Keeper.may_leave _ _ _ _ tt c.attach.ensures.turn c.attach.ensures.keeper)

pub returns-in-Drain-clause-kept : goal.returns-in-Drain-clause-kept
returns-in-Drain-clause-kept g c = rw (c.in-Drain.is, c.into_reply.ensures.value) (poll_kept g.K.Keeper.told g.K.Keeper.faults g.K.Keeper.calls g.K.Keeper.is_clean g.K.Keeper.may_leave _ _ _ _ tt c.drain.ensures.turn c.drain.ensures.keeper)

pub returns-in-Detach-clause-kept : goal.returns-in-Detach-clause-kept
returns-in-Detach-clause-kept g c = rw c.in-Detach.is (poll_kept g.K.Keeper.told g.K.Keeper.faults g.K.Keeper.calls g.K.Keeper.is_clean g.K.Keeper.may_leave _ _ _ _ tt c.detach.ensures.turn c.detach.ensures.keeper)
