use Rattle.std.proofs.Common.{◌≡◌, ◌++◌, drop}
use Rattle.std.specs.Prelude.{filter}
use Rattle.peer_view.specs.Shown.{is_shown}
use Rattle.peer_view.proofs.shown_rows.shown_routes.Given as goal

-- with those of the routes to come these are all
abbrev pub invariant-loop-route : goal.invariant-loop-route
invariant-loop-route l =
    l.out ++ filter (is_shown l.world l.viewer l.machines l.peer) (drop l.route-index l.peer.site.approved)
    ≡ filter (is_shown l.world l.viewer l.machines l.peer) l.peer.site.approved
