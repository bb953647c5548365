use Rattle.std.proofs.Common.{rules, ◌∙◌, ap}
use Rattle.session_hub.proofs.SeatSteps.{joins, compares, told}
use Rattle.session_hub.proofs.hub.Hub.merge_places.Goals as goal

pub join_seat-requires : goal.join_seat-requires
join_seat-requires g c = (search rules, search rules, search rules, search rules, joins _ _ _ _ _ _ c.requires.idle.0 c.requires.idle.1)

pub load-requires : goal.load-requires
load-requires g c = (search rules, search rules, compares _ _ _ _ _ (ap (λ m. m.0.stage) c.join_seat.ensures.2 ∙ c.requires.idle.0))

pub returns-clause-merged : goal.returns-clause-merged
returns-clause-merged g c = told _ _ _ _ _ _ c.join_seat.ensures.2 c.load.ensures.2
