use Rattle.tailnet_desk.proofs.KeptTurns.{turns_safe}
use Rattle.tailnet_desk.proofs.laws.desks_stay_safe.Goals as goal

pub returns : goal.returns
returns g c = record { safe = turns_safe g.K.Keeper.told g.K.Keeper.faults g.K.Keeper.calls g.K.Keeper.is_clean g.K.Keeper.may_leave }
