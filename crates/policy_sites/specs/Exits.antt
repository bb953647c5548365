-- Routes among others, and the exit routes.
use Rattle.std.specs.Prelude.{◌==◌, ◌&&◌, Bool, List, [], ◌∷◌}
use Rattle.std.specs.List.{list_any}
use Rattle.net_addr.specs.Bits.{Block}
use Rattle.net_rows.specs.Damage.{address_eq}
use Rattle.policy_rows.specs.Internet.{v4_net, v6_net}

-- they are one route: of one family, base and length
abbrev pub route_eq : Block → Block → Bool
route_eq p q = address_eq p.base q.base && p.len == q.len

-- the route is one of these
abbrev pub has_route : List Block → Block → Bool
has_route routes r = list_any (λ q. route_eq q r) routes

-- 0.0.0.0/0
abbrev pub exit_v4 : Block
exit_v4 = v4_net 0 0

-- ::/0
abbrev pub exit_v6 : Block
exit_v6 = v6_net 0 0

-- the exit routes, by which a machine offers the whole internet
abbrev pub exit_routes : List Block
exit_routes = exit_v4 ∷ exit_v6 ∷ []

-- the route is one of them
abbrev pub is_exit_route : Block → Bool
is_exit_route r = has_route exit_routes r

-- both of them are among the routes
abbrev pub both_exits : List Block → Bool
both_exits routes = has_route routes exit_v4 && has_route routes exit_v6
