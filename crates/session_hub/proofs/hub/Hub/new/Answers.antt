use Rattle.std.proofs.Common.{refl}
use Rattle.session_hub.specs.Lines.{Replays}
use Rattle.tailnet_desk.specs.Crashes.{IsSafeDesk}
use Rattle.tailnet_desk.specs.Seated.{point_of}
use Rattle.session_hub.proofs.TurnSteps.{opens}
use Rattle.session_hub.proofs.hub.Hub.new.Goals as goal

pub new-requires : goal.new-requires
new-requires g c =
    let at = point_of g.K.Keeper.told g.K.Keeper.faults g.K.Keeper.calls in
    let safe = IsSafeDesk g.K.Keeper.told g.K.Keeper.is_clean g.K.Keeper.may_leave in
    rw c.of-start.ensures (rw c.push_reserved.ensures.items (rw c.in-Ok.ensures.items (opens (Replays at safe) c.args.desk (record { replays = record { legal = tt; state = refl; count = refl; before = λ tells. tells }; stays = λ h. h }))))
