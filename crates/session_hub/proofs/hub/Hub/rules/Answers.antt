use Rattle.std.proofs.Common.{IfSome, ap, subst}
use Rattle.session_hub.specs.Seats.{HubView}
use Rattle.tailnet_desk.specs.Sound.{IsSoundState}
use Rattle.session_hub.proofs.hub.Hub.rules.Goals as goal

pub returns : goal.returns
returns g c = record { sound = subst (λ (h : HubView). IfSome h.start (λ start. IsSoundState start.state)) (ap (λ z. z.view) c.self.view_is) c.self.invariant.2 }
