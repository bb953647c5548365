use Rattle.policy_sites.proofs.LawLemmas.{addresses_outside, internet_outside, outside, own_alone}
use Rattle.policy_sites.proofs.route_laws.approved_routes_leave_tailnets.Goals as goal

pub returns : goal.returns
returns c =
    let kept = c.sorted_routes_rise.ensures.same in
    record { routes = outside kept; addresses = addresses_outside kept; internet = internet_outside; own = own_alone kept }
