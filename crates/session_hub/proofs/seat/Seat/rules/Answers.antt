use Rattle.std.proofs.Common.{subst}
use Rattle.session_hub.specs.Lines.{AreLegal}
use Rattle.session_hub.specs.Seats.{SeatView}
use Rattle.session_hub.proofs.seat.Seat.rules.Goals as goal

pub returns : goal.returns
returns g c = record { legal = subst (λ (s : SeatView). AreLegal s.hub.start s.seen) c.self.view_is c.self.invariant.4 }
