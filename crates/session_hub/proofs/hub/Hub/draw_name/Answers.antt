use Rattle.std.proofs.Common.{rules}
use Rattle.session_hub.proofs.SeatSteps.{names}
use Rattle.session_hub.proofs.hub.Hub.draw_name.Goals as goal

pub compare_exchange-found-requires : goal.compare_exchange-found-requires
compare_exchange-found-requires g c = (search rules, search rules, names _ _ _ _ _ _ (search rules) (search rules))
