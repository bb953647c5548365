use Rattle.tailnet_desk.proofs.KeptTurns.{poll_kept}
use Rattle.tailnet_desk.proofs.turns.DeskTurns.attach.Goals as goal

pub returns : goal.returns
returns g c = record {
  turn = poll_kept g.K.Keeper.told g.K.Keeper.faults g.K.Keeper.calls g.K.Keeper.is_clean g.K.Keeper.may_leave _ _ _ _ tt c.attach.ensures.turn c.attach.ensures.keeper;
  kind = c.attach.ensures.kind;
}
