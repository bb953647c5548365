-- At which machine a viewer is shown a route.
use Rattle.std.specs.Prelude.{◌≡◌, ◌&&◌, true, Contains}
use Rattle.std.specs.List.{list_any}
use Rattle.net_addr.specs.Bits.{Block}
use Rattle.peer_view.specs.Seen.{Node, Seen, visible}
use Rattle.peer_view.specs.Shown.{is_shown, offers}

-- Of the machines that the viewer sees it is shown the route at this one alone, which offers it. The machine is online
-- if any of them that offers the route is.
pub record IsShownAt (w : Seen) (viewer : Node) (r : Block) (p : Node) : Type 0 where
  pub seen : Contains (visible w viewer) p
  pub offered : offers r p ≡ true
  pub shown : is_shown w viewer (visible w viewer) p r ≡ true
  pub alone : (q : Node) → Contains (visible w viewer) q → is_shown w viewer (visible w viewer) q r ≡ true → q ≡ p
  pub online : p.online ≡ list_any (λ q. offers r q && q.online) (visible w viewer)
