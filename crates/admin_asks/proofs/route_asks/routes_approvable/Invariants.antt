use Rattle.std.proofs.Common.{◌≡◌, drop}
use Rattle.admin_asks.specs.Routes.{routes_approvable}
use Rattle.admin_asks.proofs.route_asks.routes_approvable.Given as goal

abbrev pub invariant-loop-route : goal.invariant-loop-route
invariant-loop-route l = routes_approvable l.advertised (drop l.route-index l.given) ≡ routes_approvable l.advertised l.given
