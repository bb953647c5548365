-- A client's view after a response (`tailcfg.MapResponse`).
use Rattle.std.specs.Prelude.{ℕ, Bool, false, List, [], ◌∷◌, ◌==◌, not, filter, map, if◌then◌else◌, Option, Some, None, replicate, unwrap_or}
use Rattle.std.specs.List.{list_any}
use Rattle.std.specs.Option.{option_map}
use Rattle.std.specs.Str.{bytes_eq}
use Rattle.net_addr.specs.declared.endpoint.Endpoint.{Endpoint}
use Rattle.tail_base.specs.declared.key.DiscoKey.{DiscoKey}
use Rattle.tailcfg.specs.declared.dns.Dns.{Dns}
use Rattle.tailcfg.specs.declared.node_row.NodeRow.{NodeRow}
use Rattle.tailcfg.specs.declared.patch.Patch.{Patch}
use Rattle.tailcfg.specs.declared.profile.Profile.{Profile}
use Rattle.tailcfg.specs.declared.response.Response.{Response}
use Rattle.fresh_maps.specs.Profiles.{owns_any}
use Rattle.fresh_maps.specs.declared.view.View.{View}
use Rattle.map_delta.specs.Puts.{node_id, profile_id, put_rows}

-- ---- patches: an absent field, an empty list, a zero region and a zero key leave what was

abbrev pub patched_endpoints : Option (List Endpoint) → List Endpoint → List Endpoint
patched_endpoints None was = was
patched_endpoints (Some []) was = was
patched_endpoints (Some (e ∷ es)) was = e ∷ es

abbrev pub patched_derp : Option ℕ → ℕ → ℕ
patched_derp None was = was
patched_derp (Some region) was = if region == 0 then was else region

-- a disco key that isn't known
abbrev pub is_zero_key : DiscoKey → Bool
is_zero_key key = bytes_eq key.0 (replicate 32 0)

abbrev pub patched_disco : Option DiscoKey → DiscoKey → DiscoKey
patched_disco None was = was
patched_disco (Some key) was = if is_zero_key key then was else key

-- a node after a patch
abbrev pub patched : Patch → NodeRow → NodeRow
patched p node = record node {
  endpoints = patched_endpoints p.endpoints node.endpoints;
  derp = patched_derp p.derp node.derp;
  disco = patched_disco p.disco node.disco;
  online = unwrap_or p.online node.online;
}

-- the node, after a patch if that is for its id
abbrev pub patched_if : Patch → NodeRow → NodeRow
patched_if p node = if node.id == p.id then patched p node else node

-- one patch after the other
abbrev pub patch_rows : List NodeRow → List Patch → List NodeRow
patch_rows nodes [] = nodes
patch_rows nodes (p ∷ ps) = patch_rows (map (patched_if p) nodes) ps

-- ---- peers and profiles

-- the id is one of these
abbrev pub lists_id : List ℕ → ℕ → Bool
lists_id ids id = list_any (λ k. k == id) ids

-- the peers whose ids aren't listed
abbrev pub left_rows : List NodeRow → List ℕ → List NodeRow
left_rows nodes gone = filter (λ n. not (lists_id gone n.id)) nodes

-- all peers anew, if the response has any
abbrev pub peers_given : List NodeRow → List NodeRow → List NodeRow
peers_given [] were = were
peers_given (p ∷ ps) were = p ∷ ps

-- all anew or as they were; then those that are new or changed, without those that are gone; patches come last
abbrev pub peers_after : Response → List NodeRow → List NodeRow
peers_after r were = patch_rows (left_rows (put_rows node_id (peers_given r.peers were) r.changed) r.removed) r.patches

-- the profiles of those that own one of the nodes
abbrev pub profiles_shown : List NodeRow → List Profile → List Profile
profiles_shown nodes profiles = filter (λ p. owns_any nodes p.id) profiles

-- ---- views

-- The view after a response that has something for it: what the response gives replaces what was.
abbrev pub applied : Response → View → View
applied r v =
    let node = unwrap_or r.node v.node in
    let peers = peers_after r v.peers in
    record {
      node = node;
      peers = peers;
      filter = unwrap_or r.filter v.filter;
      dns = unwrap_or r.dns v.dns;
      domain = unwrap_or r.domain v.domain;
      profiles = profiles_shown (node ∷ peers) (put_rows profile_id v.profiles r.profiles);
    }

-- no DNS
abbrev pub empty_dns : Dns
empty_dns = record { settings = record { domains = []; proxied = false; resolvers = []; routes = [] }; extras = [] }

-- a view that has nothing but its own node
abbrev pub bare : NodeRow → View
bare node = record { node = node; peers = []; filter = []; dns = empty_dns; domain = []; profiles = [] }

-- The view that a response begins from: a handle with a node begins anew, and so does the first node.
abbrev pub start : Option View → Option (List ℕ) → Option NodeRow → Option View
start None handle None = None
start None handle (Some node) = Some (bare node)
start (Some v) handle None = Some v
start (Some v) None (Some node) = Some v
start (Some v) (Some handle) (Some node) = Some (bare node)

-- The view after a response.
abbrev pub fold : Option View → Response → Option View
fold view r = option_map (applied r) (start view r.handle r.node)

-- after some responses
abbrev pub fold_all : Option View → List Response → Option View
fold_all view [] = view
fold_all view (r ∷ rs) = fold_all (fold view r) rs
