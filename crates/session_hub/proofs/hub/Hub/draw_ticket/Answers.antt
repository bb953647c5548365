use Rattle.std.proofs.Common.{rules}
use Rattle.session_hub.proofs.TurnSteps.{draws}
use Rattle.session_hub.proofs.hub.Hub.draw_ticket.Goals as goal

pub compare_exchange-found-requires : goal.compare_exchange-found-requires
compare_exchange-found-requires g c = (search rules, search rules, draws _ _ _ _ _ _ (search rules) (search rules) (search rules))
