-- Maps in order.
use Rattle.std.specs.Prelude.{◌≡◌, ◌≢◌, ℕ, ◌∷◌, Contains, is_some}
use Rattle.net_rows.specs.Shelf.{IsAscending, row_at}
use Rattle.tailcfg.specs.declared.node_row.NodeRow.{NodeRow}
use Rattle.fresh_maps.specs.Profiles.{owns_any}
use Rattle.fresh_maps.specs.declared.view.View.{View}

-- Peers and profiles rise by id, the machine isn't its own peer, and exactly the owners of the nodes have a profile, so
-- each of them one.
pub record IsInOrder (view : View) : Type 0 where
  pub peers : IsAscending (λ p. p.id) view.peers
  pub own : (p : NodeRow) → Contains view.peers p → p.id ≢ view.node.id
  pub profiles : IsAscending (λ p. p.id) view.profiles
  pub owners : (id : ℕ) → is_some (row_at (λ p. p.id) view.profiles id) ≡ owns_any (view.node ∷ view.peers) id
