-- The responses that bring a view to a newer one.
use Rattle.std.specs.Prelude.{◌≡◌, ◌+◌, ℕ, Bool, true, false, List, [], ◌∷◌, ◌==◌, ◌&&◌, ◌||◌, not, filter, map, if◌then◌else◌, Option, Some, None, is_none}
use Rattle.std.specs.Bool.{beq}
use Rattle.std.specs.Cmp.Lexicographic.{pointwise}
use Rattle.std.specs.List.{filter_map}
use Rattle.std.specs.Str.{bytes_eq}
use Rattle.net_rows.specs.Shelf.{row_at}
use Rattle.tailcfg.specs.declared.node_row.NodeRow.{NodeRow}
use Rattle.tailcfg.specs.declared.patch.Patch.{Patch}
use Rattle.tailcfg.specs.declared.profile.Profile.{Profile}
use Rattle.tailcfg.specs.declared.response.Response.{Response}
use Rattle.same_maps.specs.Dns.{same_dns}
use Rattle.same_maps.specs.Filters.{same_filter}
use Rattle.same_maps.specs.Nodes.{same_fixed, same_node_row, same_profile}
use Rattle.same_maps.specs.Parts.{same_endpoint}
use Rattle.fresh_maps.specs.Responses.{first_response}
use Rattle.fresh_maps.specs.declared.view.View.{View}
use Rattle.map_delta.specs.Fold.{is_zero_key}
use Rattle.map_delta.specs.Puts.{node_id, profile_id}

abbrev pub is_nil : {T : Type 0} → List T → Bool
is_nil [] = true
is_nil (x ∷ xs) = false

-- what is given where it isn't as it was
abbrev pub new_unless : {T : Type 0} → Bool → T → Option T
new_unless same x = if same then None else Some x

-- ---- peers

-- A peer can be patched where only endpoints, DERP region, disco key and online differ; neither an empty list nor a zero
-- region or key can be given.
abbrev pub can_patch : NodeRow → NodeRow → Bool
can_patch a b =
    same_fixed a b
    && (pointwise same_endpoint a.endpoints b.endpoints || not (is_nil b.endpoints))
    && (a.derp == b.derp || not (b.derp == 0))
    && (bytes_eq a.disco.0 b.disco.0 || not (is_zero_key b.disco))

-- what differs
abbrev pub patch_between : NodeRow → NodeRow → Patch
patch_between a b = record {
  id = b.id;
  derp = new_unless (a.derp == b.derp) b.derp;
  disco = new_unless (bytes_eq a.disco.0 b.disco.0) b.disco;
  endpoints = new_unless (pointwise same_endpoint a.endpoints b.endpoints) b.endpoints;
  online = new_unless (beq a.online b.online) b.online;
}

-- a whole row is sent of a peer that is new, or that differs and can't be patched
abbrev pub is_sent_whole : Option NodeRow → NodeRow → Bool
is_sent_whole None b = true
is_sent_whole (Some a) b = not (same_node_row a b) && not (can_patch a b)

-- a patch is sent of a peer that differs and can be patched
abbrev pub patch_for : Option NodeRow → NodeRow → Option Patch
patch_for None b = None
patch_for (Some a) b = if same_node_row a b then None else if can_patch a b then Some (patch_between a b) else None

abbrev pub changed_rows : List NodeRow → List NodeRow → List NodeRow
changed_rows old new = filter (λ b. is_sent_whole (row_at node_id old b.id) b) new

abbrev pub removed_ids : List NodeRow → List NodeRow → List ℕ
removed_ids old new = map node_id (filter (λ a. is_none (row_at node_id new a.id)) old)

abbrev pub patches_between : List NodeRow → List NodeRow → List Patch
patches_between old new = filter_map (λ b. patch_for (row_at node_id old b.id) b) new

-- ---- profiles

abbrev pub is_new_profile : Option Profile → Profile → Bool
is_new_profile None b = true
is_new_profile (Some a) b = not (same_profile a b)

-- those that are new or changed
abbrev pub new_profiles : List Profile → List Profile → List Profile
new_profiles old new = filter (λ b. is_new_profile (row_at profile_id old b.id) b) new

-- ---- responses

-- a response with what differs, but for patches
abbrev pub change : View → View → ℕ → Response
change old new seq = record {
  handle = None;
  seq = Some seq;
  node = new_unless (same_node_row old.node new.node) new.node;
  filter = new_unless (same_filter old.filter new.filter) new.filter;
  dns = new_unless (same_dns old.dns new.dns) new.dns;
  domain = None;
  peers = [];
  changed = changed_rows old.peers new.peers;
  removed = removed_ids old.peers new.peers;
  patches = [];
  profiles = new_profiles old.profiles new.profiles;
}

-- a response with patches
abbrev pub patching : List Patch → ℕ → Response
patching ps seq = record {
  handle = None;
  seq = Some seq;
  node = None;
  filter = None;
  dns = None;
  domain = None;
  peers = [];
  changed = [];
  removed = [];
  patches = ps;
  profiles = [];
}

-- a change without content
abbrev pub is_empty : Response → Bool
is_empty r =
    is_none r.node && is_none r.filter && is_none r.dns && is_nil r.changed && is_nil r.removed && is_nil r.profiles

-- patches in a response of their own, if there are any
abbrev pub then_patch : List Patch → ℕ → List Response
then_patch [] seq = []
then_patch (p ∷ ps) seq = patching (p ∷ ps) seq ∷ []

-- a change, if it has content, and then patches, if there are any, numbered behind the last response
abbrev pub responses_of : Response → List Patch → ℕ → List Response
responses_of c ps seq = if is_empty c then then_patch ps (seq + 1) else c ∷ then_patch ps (seq + 2)

-- At most a change and then patches, numbered behind the last one; nothing where nothing differs.
abbrev pub delta : View → View → ℕ → List Response
delta old new seq = responses_of (change old new (seq + 1)) (patches_between old.peers new.peers) seq

-- The responses of a session: the whole map where nothing was sent, and else what brings the sent map to the new one.
abbrev pub responses_for : List ℕ → ℕ → Option View → View → List Response
responses_for handle seq None new = first_response new (Some handle) (Some (seq + 1)) ∷ []
responses_for handle seq (Some old) new = delta old new seq

-- the responses are numbered one by one behind a number
abbrev pub AreNumbered : ℕ → List Response → Type 0
AreNumbered seq [] = Unit {0}
AreNumbered seq (r ∷ rs) = (r.seq ≡ Some (seq + 1)) × AreNumbered (seq + 1) rs

-- What tells a client that its session goes on: the handle alone, without a number.
abbrev pub greeting : List ℕ → Response
greeting handle = record {
  handle = Some handle;
  seq = None;
  node = None;
  filter = None;
  dns = None;
  domain = None;
  peers = [];
  changed = [];
  removed = [];
  patches = [];
  profiles = [];
}
