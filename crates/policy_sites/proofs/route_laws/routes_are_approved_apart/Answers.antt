use Rattle.policy_sites.proofs.LawLemmas.{advertised, again, apart, exit_again}
use Rattle.policy_sites.proofs.route_laws.routes_are_approved_apart.Goals as goal

pub returns : goal.returns
returns c =
    let kept = c.sorted_routes_rise.ensures.same in
    record { apart = apart kept; advertised = advertised kept; again = again kept; exit_again = exit_again }
