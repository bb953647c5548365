use Rattle.std.proofs.Common.{rules}
use Rattle.session_hub.proofs.SeatSteps.{splits}
use Rattle.session_hub.proofs.hub.Hub.copy_place.Goals as goal

pub split_seat-requires : goal.split_seat-requires
split_seat-requires g c = (search rules, search rules, splits _ _ _ _ c.requires.idle)
