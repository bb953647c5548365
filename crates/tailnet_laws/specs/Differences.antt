-- What the responses of a delta name.
use Rattle.std.specs.Prelude.{◌≡◌, ◌≢◌, ℕ, Bool, List, [], Some, None, Contains}
use Rattle.net_addr.specs.declared.endpoint.Endpoint.{Endpoint}
use Rattle.tail_base.specs.declared.key.DiscoKey.{DiscoKey}
use Rattle.net_rows.specs.Shelf.{HasRow, row_at}
use Rattle.tailcfg.specs.declared.dns.Dns.{Dns}
use Rattle.tailcfg.specs.declared.filter.FilterRule.{FilterRule}
use Rattle.tailcfg.specs.declared.node_row.NodeRow.{NodeRow}
use Rattle.tailcfg.specs.declared.patch.Patch.{Patch}
use Rattle.tailcfg.specs.declared.profile.Profile.{Profile}
use Rattle.tailcfg.specs.declared.response.Response.{Response}
use Rattle.fresh_maps.specs.declared.view.View.{View}
use Rattle.map_delta.specs.Puts.{node_id, profile_id}

-- The patch is for a peer of both maps that differs, and gives of it what differs alone, as it is now.
pub record PatchesDifference (old new : List NodeRow) (p : Patch) : Type 0 where
  pub was : NodeRow
  pub now : NodeRow
  pub was_there : row_at node_id old p.id ≡ Some was
  pub now_there : Contains new now
  pub id : now.id ≡ p.id
  pub differs : was ≢ now
  pub endpoints : (given : List Endpoint) → p.endpoints ≡ Some given → (given ≡ now.endpoints) × (given ≢ was.endpoints)
  pub derp : (given : ℕ) → p.derp ≡ Some given → (given ≡ now.derp) × (given ≢ was.derp)
  pub disco : (given : DiscoKey) → p.disco ≡ Some given → (given ≡ now.disco) × (given ≢ was.disco)
  pub online : (given : Bool) → p.online ≡ Some given → (given ≡ now.online) × (given ≢ was.online)

-- What the response names differs between the two maps: it gives a node, a filter or DNS that isn't as it was, peers and
-- profiles of the new map that the old one doesn't have so, and takes out peers that the old one has and the new one
-- doesn't. It gives neither all peers nor the tailnet's name.
pub record NamesDifferences (old new : View) (r : Response) : Type 0 where
  pub node : (given : NodeRow) → r.node ≡ Some given → (given ≡ new.node) × (given ≢ old.node)
  pub filter : (given : List FilterRule) → r.filter ≡ Some given → (given ≡ new.filter) × (given ≢ old.filter)
  pub dns : (given : Dns) → r.dns ≡ Some given → (given ≡ new.dns) × (given ≢ old.dns)
  pub changed : (row : NodeRow) → Contains r.changed row → Contains new.peers row × (row_at node_id old.peers row.id ≢ Some row)
  pub removed : (id : ℕ) → Contains r.removed id → HasRow node_id old.peers id × (row_at node_id new.peers id ≡ None)
  pub patches : (p : Patch) → Contains r.patches p → PatchesDifference old.peers new.peers p
  pub profiles : (profile : Profile) → Contains r.profiles profile
      → Contains new.profiles profile × (row_at profile_id old.profiles profile.id ≢ Some profile)
  pub peers : r.peers ≡ []
  pub domain : r.domain ≡ None

-- The response names no peer of this id.
pub record IsUnnamed (r : Response) (id : ℕ) : Type 0 where
  pub changed : (row : NodeRow) → Contains r.changed row → row.id ≢ id
  pub removed : Contains r.removed id → ⊥
  pub patches : (p : Patch) → Contains r.patches p → p.id ≢ id
