-- What a patch makes of a node, and patches of nodes.
use Rattle.std.proofs.Common.{◌≡◌, ℕ, Bool, true, false, List, [], ◌∷◌, arith, inl, inr, sym, ◌∙◌, ap, refl, ◌==◌, ◌||◌, not, if◌then◌else◌}
use Rattle.std.specs.Prelude.{Option, Some, None, map, unwrap_or}
use Rattle.std.specs.Bool.{beq}
use Rattle.std.specs.Cmp.Lexicographic.{pointwise}
use Rattle.std.specs.Option.{option_map}
use Rattle.std.specs.Str.{bytes_eq}
use Rattle.std.proofs.lemmas.Bool.{cases_Bool, eqb-true, eq-eqb, false≢true}
use Rattle.tail_base.specs.declared.key.DiscoKey.{DiscoKey}
use Rattle.tail_base.proofs.Bools.{all4}
use Rattle.net_addr.specs.declared.endpoint.Endpoint.{Endpoint}
use Rattle.net_rows.specs.Shelf.{IsAscending, row_at}
use Rattle.tailcfg.specs.declared.node_row.NodeRow.{NodeRow}
use Rattle.tailcfg.specs.declared.patch.Patch.{Patch}
use Rattle.peer_view.proofs.ListLemmas.{ascending_map}
use Rattle.same_maps.specs.Nodes.{same_fixed}
use Rattle.same_maps.specs.Parts.{same_endpoint}
use Rattle.same_maps.proofs.NodeLemmas.{disco_keys_equal, fixed_of}
use Rattle.same_maps.proofs.PartLemmas.{endpoints_equal, lists_equal}
use Rattle.fresh_maps.specs.Profiles.{owns_any}
use Rattle.map_delta.specs.Delta.{can_patch, is_nil, patch_between, new_unless}
use Rattle.map_delta.specs.Fold.{is_zero_key, patch_rows, patched, patched_derp, patched_disco, patched_endpoints, patched_if}
use Rattle.map_delta.specs.Puts.{node_id}
use Rattle.map_delta.proofs.IdLaws.{none_behind, row_at-map, row_at_id, patch_id}

-- ---- one patch

endpoints_given : (x y : List Endpoint) → (pointwise same_endpoint x y || not (is_nil y)) ≡ true → patched_endpoints (new_unless (pointwise same_endpoint x y) y) x ≡ y
endpoints_given x [] h = elim (cases_Bool (pointwise same_endpoint x [])) [
  | inl same ↦ rw same (lists_equal same_endpoint endpoints_equal x [] same)
  | inr other ↦ absurd (false≢true (rw other at h))
]
endpoints_given x (y ∷ ys) h = elim (cases_Bool (pointwise same_endpoint x (y ∷ ys))) [
  | inl same ↦ rw same (lists_equal same_endpoint endpoints_equal x (y ∷ ys) same)
  | inr other ↦ rw other refl
]

derp_given : (x y : ℕ) → (x == y || not (y == 0)) ≡ true → patched_derp (new_unless (x == y) y) x ≡ y
derp_given x y h = elim (cases_Bool (x == y)) [
  | inl same ↦ rw same (eqb-true x y same)
  | inr other ↦ elim (cases_Bool (y == 0)) [
    | inl nothing ↦ absurd (false≢true (rw (other, nothing) at h))
    | inr some ↦ rw other (rw some refl)
  ]
]

disco_given : (x y : DiscoKey) → (bytes_eq x.0 y.0 || not (is_zero_key y)) ≡ true → patched_disco (new_unless (bytes_eq x.0 y.0) y) x ≡ y
disco_given x y h = elim (cases_Bool (bytes_eq x.0 y.0)) [
  | inl same ↦ rw same (disco_keys_equal x y same)
  | inr other ↦ elim (cases_Bool (is_zero_key y)) [
    | inl nothing ↦ absurd (false≢true (rw (other, nothing) at h))
    | inr some ↦ rw other (rw some refl)
  ]
]

online_given : (x y : Bool) → unwrap_or (new_unless (beq x y) y) x ≡ y
online_given true true = refl
online_given true false = refl
online_given false true = refl
online_given false false = refl

-- the patch between two nodes brings the one to the other
pub patched_is : (a b : NodeRow) → can_patch a b ≡ true → patched (patch_between a b) a ≡ b
patched_is a b h =
    let p = all4 (same_fixed a b) (pointwise same_endpoint a.endpoints b.endpoints || not (is_nil b.endpoints)) (a.derp == b.derp || not (b.derp == 0)) (bytes_eq a.disco.0 b.disco.0 || not (is_zero_key b.disco)) h in
    let f = fixed_of a b p.0 in
    λ i. record {
      id = f.id i;
      user = f.user i;
      key = f.key i;
      machine = f.machine i;
      disco = disco_given a.disco b.disco p.3 i;
      name = f.name i;
      host = f.host i;
      addresses = f.addresses i;
      allowed = f.allowed i;
      endpoints = endpoints_given a.endpoints b.endpoints p.1 i;
      derp = derp_given a.derp b.derp p.2 i;
      tags = f.tags i;
      created = f.created i;
      expiry = f.expiry i;
      online = online_given a.online b.online i;
    }

-- ---- patches

keeps_id : (p : Patch) (n : NodeRow) → node_id (patched_if p n) ≡ node_id n
keeps_id p n = elim (n.id == p.id) as (λ b. node_id (if b then patched p n else n) ≡ n.id) [ true ↦ refl | false ↦ refl ]

keeps_user : (p : Patch) (n : NodeRow) → (patched_if p n).user ≡ n.user
keeps_user p n = elim (n.id == p.id) as (λ b. (if b then patched p n else n).user ≡ n.user) [ true ↦ refl | false ↦ refl ]

turned : (a b : ℕ) → (b == a) ≡ false → (a == b) ≡ false
turned a b e = grind arith

-- a node after the patch of its id, if there is one
abbrev pub patched_by : Option Patch → NodeRow → NodeRow
patched_by None n = n
patched_by (Some p) n = patched p n

pub patch_rows_at : (ps : List Patch) (nodes : List NodeRow) (k : ℕ) → IsAscending patch_id ps → row_at node_id (patch_rows nodes ps) k ≡ option_map (patched_by (row_at patch_id ps k)) (row_at node_id nodes k)
patch_rows_at [] nodes k h = go (row_at node_id nodes k)
  where
    go : (o : Option NodeRow) → o ≡ option_map (patched_by None) o
    go None = refl
    go (Some n) = refl
patch_rows_at (p ∷ ps) nodes k h =
    patch_rows_at ps (map (patched_if p) nodes) k h.1
    ∙ ap (option_map (patched_by (row_at patch_id ps k))) (row_at-map node_id node_id (patched_if p) (keeps_id p) nodes k)
    ∙ go (row_at node_id nodes k) (row_at_id node_id nodes k)
  where
    go : (o : Option NodeRow) → ((n : NodeRow) → o ≡ Some n → n.id ≡ k)
        → option_map (patched_by (row_at patch_id ps k)) (option_map (patched_if p) o) ≡ option_map (patched_by (if p.id == k then Some p else row_at patch_id ps k)) o
    go None at = refl
    go (Some n) at = elim (cases_Bool (p.id == k)) [
      | inl same ↦
          let none : row_at patch_id ps k ≡ None = none_behind patch_id p ps k h.0 (eqb-true p.id k same) in
          let its : (n.id == p.id) ≡ true = eq-eqb n.id p.id (at n refl ∙ sym (eqb-true p.id k same)) in
          rw (same, none, its) refl
      | inr apart ↦
          let its : (n.id == p.id) ≡ false = ap (λ (j : ℕ). j == p.id) (at n refl) ∙ turned k p.id apart in
          rw (apart, its) refl
    ]

pub ascending_patch_rows : (ps : List Patch) (nodes : List NodeRow) → IsAscending node_id nodes → IsAscending node_id (patch_rows nodes ps)
ascending_patch_rows [] nodes h = h
ascending_patch_rows (p ∷ ps) nodes h = ascending_patch_rows ps (map (patched_if p) nodes) (ascending_map node_id (patched_if p) node_id (keeps_id p) nodes h)

owners_patched_by : (p : Patch) (nodes : List NodeRow) (k : ℕ) → owns_any (map (patched_if p) nodes) k ≡ owns_any nodes k
owners_patched_by p [] k = refl
owners_patched_by p (n ∷ ns) k = rw (keeps_user p n, owners_patched_by p ns k) refl

-- the owners stay
pub owners_patched : (ps : List Patch) (nodes : List NodeRow) (k : ℕ) → owns_any (patch_rows nodes ps) k ≡ owns_any nodes k
owners_patched [] nodes k = refl
owners_patched (p ∷ ps) nodes k = owners_patched ps (map (patched_if p) nodes) k ∙ owners_patched_by p nodes k
