use Rattle.std.proofs.Common.{◌≡◌, ◌++◌, drop}
use Rattle.std.specs.Prelude.{filter}
use Rattle.admin_asks.specs.Routes.{is_chosen}
use Rattle.admin_asks.proofs.route_asks.chosen_among.Given as goal

-- with the chosen ones of the routes to come these are all
abbrev pub invariant-loop-route : goal.invariant-loop-route
invariant-loop-route l = l.kept ++ filter (is_chosen l.given) (drop l.route-index l.advertised) ≡ filter (is_chosen l.given) l.advertised
