-- The machines through which the routes of a viewer's map go.
use Rattle.std.specs.Prelude.{◌&&◌, Bool, filter, length, nat_lt}
use Rattle.std.specs.List.{list_any}
use Rattle.policy_rows.specs.Internet.{is_internet}
use Rattle.peer_view.specs.Seen.{Node, Seen, visible}
use Rattle.peer_view.specs.Shown.{granted_into}
use Rattle.peer_view.specs.declared.routers.Routers.{Routers}

-- a route of the machine is approved
abbrev pub has_routes : Node → Bool
has_routes q = nat_lt 0 (length q.site.approved)

-- Of the machines that the viewer sees those with approved routes, and whether it is shown the exit routes of the exit
-- nodes among them, if there are any.
abbrev pub routers_of : Seen → Node → Routers
routers_of w viewer = record {
  machines = filter has_routes (visible w viewer);
  exits = list_any (λ q. q.site.exit) (visible w viewer) && granted_into w viewer is_internet;
}
