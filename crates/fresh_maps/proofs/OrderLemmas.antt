-- A fresh map is in order.
use Rattle.std.proofs.Common.{◌≡◌, ◌≢◌, ◌<◌, ◌++◌, ◌==◌, ◌||◌, ◌&&◌, ◌⊎◌, ℕ, Bool, true, false, not, List, [], ◌∷◌, inl, inr, refl, ap, sym, ◌∙◌, subst, if◌then◌else◌}
use Rattle.std.specs.Prelude.{Contains, Option, Some, None, filter, is_some, map}
use Rattle.std.proofs.lemmas.Bool.{eq-eqb, eqb-true}
use Rattle.std.proofs.lemmas.List.{append-nil}
use Rattle.std.proofs.lemmas.List.Elements.{Contains-append_cases, Contains-append_left, Contains-append_right}
use Rattle.tail_base.proofs.Bools.{same_tests}
use Rattle.net_rows.specs.Damage.{damage}
use Rattle.net_rows.specs.Shelf.{HasRow, IsAscending, row_at}
use Rattle.net_rows.specs.declared.rows.Rows.{Rows}
use Rattle.net_rows.specs.declared.user.User.{User}
use Rattle.net_rows.proofs.Members.{cut_last, cut_member, find_member, find_none, first_member, list_any_found, no_member, rest_member}
use Rattle.settings.specs.declared.fields.SettingsFields.{SettingsFields}
use Rattle.tailcfg.specs.declared.node_row.NodeRow.{NodeRow}
use Rattle.tailcfg.specs.declared.profile.Profile.{Profile}
use Rattle.policy_rows.specs.declared.policy.Policy.{Policy}
use Rattle.peer_view.specs.Nodes.{is_tagged}
use Rattle.peer_view.specs.Seen.{IsSoundSeen, Node, Seen, is_node, node_reaches, seen_of, sees, visible}
use Rattle.peer_view.specs.Shown.{own_row, shown}
use Rattle.peer_view.specs.declared.node.TheConstants.{TAGGED_OWNER}
use Rattle.peer_view.proofs.ListLemmas.{ascending_filter, ascending_map, filter_member, filtered_member, filtered_passes, map_member, mapped_member}
use Rattle.peer_view.proofs.WorldLaws.{seen_sound}
use Rattle.fresh_maps.specs.Fresh.{fresh, peers_of}
use Rattle.fresh_maps.specs.InOrder.{IsInOrder}
use Rattle.fresh_maps.specs.Profiles.{owners_of, owns_any, tagged_profile, user_profile}

-- ---- peers

peers_ascend : (w : Seen) (v : Node) → IsSoundSeen w → IsAscending (λ (p : NodeRow). p.id) (peers_of w v)
peers_ascend w v sound =
    ascending_map (λ (n : Node). n.row.id) (shown w v (visible w v)) (λ (p : NodeRow). p.id) (λ n. refl) (visible w v)
    (ascending_filter (λ (n : Node). n.row.id) (sees w v) w.nodes sound.nodes)

-- nobody sees itself
apart : (w : Seen) (v n : Node) → sees w v n ≡ true → (v.row.id == n.row.id) ≡ false
apart w v n h = go (is_node w v) (is_node w n) (v.row.id == n.row.id) (node_reaches w v n || node_reaches w n v) h
  where
    go : (a b same r : Bool) → (a && b && not same && r) ≡ true → same ≡ false
    go a b false r e = refl
    go true true true r e = absurd (cc)
    go true false true r e = absurd (cc)
    go false b true r e = absurd (cc)

-- of each peer its machine, which is seen
peer_from : (w : Seen) (v : Node) (p : NodeRow) → Contains (peers_of w v) p → (n : Node) × Contains w.nodes n × (sees w v n ≡ true) × (shown w v (visible w v) n ≡ p)
peer_from w v p inside =
    let at = mapped_member (shown w v (visible w v)) (visible w v) p inside in
    (at.0, filter_member (sees w v) w.nodes at.0 at.1, filtered_passes (sees w v) w.nodes at.0 at.1, at.2)

no_own_peer : (w : Seen) (v : Node) (p : NodeRow) → Contains (peers_of w v) p → p.id ≢ v.row.id
no_own_peer w v p inside e =
    let at = peer_from w v p inside in
    let id : at.0.row.id ≡ p.id = ap (λ (z : NodeRow). z.id) at.3 in
    let other : (v.row.id == at.0.row.id) ≡ false = apart w v at.0 at.2 in
    let same : (v.row.id == at.0.row.id) ≡ true = eq-eqb v.row.id at.0.row.id (sym (id ∙ e)) in
    let clash : false ≡ true = sym other ∙ same in
    absurd (cc)

-- ---- profiles

-- one more at the end, above all
ascending_last : {A : Type 0} (id : A → ℕ) (xs : List A) (y : A) → IsAscending id xs → ((x : A) → Contains xs x → id x < id y) → IsAscending id (xs ++ y ∷ [])
ascending_last id [] y h above = ((λ z m. absurd (no_member z m)), tt)
ascending_last {A} id (x ∷ xs) y h above =
    let first : (z : A) → Contains (xs ++ y ∷ []) z → id x < id z = λ z m. elim (cut_last xs y z m) [
      | inl e ↦ subst (λ (k : A). id x < id k) (sym e) (above x (first_member x xs))
      | inr r ↦ h.0 z r
    ] in
    (first, ascending_last id xs y h.1 (λ z m. above z (rest_member x xs z m)))

users_ascend : (users : List User) (nodes : List NodeRow) → IsAscending (λ (u : User). u.id) users → IsAscending (λ (p : Profile). p.id) (map user_profile (filter (λ u. owns_any nodes u.id) users))
users_ascend users nodes h =
    ascending_map (λ (u : User). u.id) user_profile (λ (p : Profile). p.id) (λ u. refl) (filter (λ u. owns_any nodes u.id) users)
    (ascending_filter (λ (u : User). u.id) (λ u. owns_any nodes u.id) users h)

users_below : (users : List User) (nodes : List NodeRow) → ((u : User) → Contains users u → u.id < TAGGED_OWNER) → (p : Profile) → Contains (map user_profile (filter (λ u. owns_any nodes u.id) users)) p → p.id < TAGGED_OWNER
users_below users nodes below p inside =
    let at = mapped_member user_profile (filter (λ u. owns_any nodes u.id) users) p inside in
    let here = below at.0 (filter_member (λ u. owns_any nodes u.id) users at.0 at.1) in
    subst (λ (q : Profile). q.id < TAGGED_OWNER) at.2 here

profiles_ascend : (w : Seen) (nodes : List NodeRow) → IsSoundSeen w → IsAscending (λ (p : Profile). p.id) (owners_of w.users nodes)
profiles_ascend w nodes sound = go (owns_any nodes TAGGED_OWNER)
  where
    front : List Profile
    front = map user_profile (filter (λ u. owns_any nodes u.id) w.users)

    ascending_end : (ps : List Profile) → IsAscending (λ (p : Profile). p.id) ps → IsAscending (λ (p : Profile). p.id) (ps ++ [])
    ascending_end ps h = rw (append-nil ps) h

    go : (tagged : Bool) → IsAscending (λ (p : Profile). p.id) (front ++ (if tagged then tagged_profile ∷ [] else []))
    go true = ascending_last (λ (p : Profile). p.id) front tagged_profile (users_ascend w.users nodes sound.users) (users_below w.users nodes sound.ids)
    go false = ascending_end front (users_ascend w.users nodes sound.users)

-- an id among the profiles is a user's that owns a node, or that of tagged machines
has_id : {A : Type 0} (id : A → ℕ) (xs : List A) (k : ℕ) → HasRow id xs k → is_some (row_at id xs k) ≡ true
has_id {A} id xs k at = go (row_at id xs k) refl
  where
    go : (o : Option A) → row_at id xs k ≡ o → is_some o ≡ true
    go (Some x) e = refl
    go None e =
        let none : (id at.0 == k) ≡ false = find_none (λ (x : A). id x == k) xs e at.0 at.1 in
        let same : (id at.0 == k) ≡ true = eq-eqb (id at.0) k at.2 in
        let clash : false ≡ true = sym none ∙ same in
        absurd (cc)

id_has : {A : Type 0} (id : A → ℕ) (xs : List A) (k : ℕ) → is_some (row_at id xs k) ≡ true → HasRow id xs k
id_has {A} id xs k h = go (row_at id xs k) refl h
  where
    go : (o : Option A) → row_at id xs k ≡ o → is_some o ≡ true → HasRow id xs k
    go (Some x) e t = let at = find_member (λ (y : A). id y == k) xs x e in (x, at.0, eqb-true (id x) k at.1)
    go None e t = absurd (cc)

-- each node of the map belongs to a user of the tables, or has tags
abbrev AreOwned : List User → List NodeRow → Type 0
AreOwned users nodes = (n : NodeRow) → Contains nodes n → HasRow (λ (u : User). u.id) users n.user ⊎ (n.user ≡ TAGGED_OWNER)

owner_of_profile : (users : List User) (nodes : List NodeRow) (k : ℕ) → HasRow (λ (p : Profile). p.id) (owners_of users nodes) k → owns_any nodes k ≡ true
owner_of_profile users nodes k at = elim (Contains-append_cases front (last (owns_any nodes TAGGED_OWNER)) at.0 at.1) [
  | inl before ↦
      let from = mapped_member user_profile (filter (λ u. owns_any nodes u.id) users) at.0 before in
      let owns : owns_any nodes from.0.id ≡ true = filtered_passes (λ u. owns_any nodes u.id) users from.0 from.1 in
      let id : from.0.id ≡ k = ap (λ (p : Profile). p.id) from.2 ∙ at.2 in
      ap (owns_any nodes) (sym id) ∙ owns
  | inr behind ↦ tagged (owns_any nodes TAGGED_OWNER) refl behind
]
  where
    front : List Profile
    front = map user_profile (filter (λ u. owns_any nodes u.id) users)

    last : Bool → List Profile
    last b = if b then tagged_profile ∷ [] else []

    tagged : (b : Bool) → owns_any nodes TAGGED_OWNER ≡ b → Contains (last b) at.0 → owns_any nodes k ≡ true
    tagged true e m = elim (cut_member tagged_profile [] at.0 m) [
      | inl is ↦
          let id : TAGGED_OWNER ≡ k = ap (λ (p : Profile). p.id) (sym is) ∙ at.2 in
          ap (owns_any nodes) (sym id) ∙ e
      | inr none ↦ absurd (no_member at.0 none)
    ]
    tagged false e m = absurd (no_member at.0 m)

profile_of_owner : (users : List User) (nodes : List NodeRow) (k : ℕ) → AreOwned users nodes → owns_any nodes k ≡ true → HasRow (λ (p : Profile). p.id) (owners_of users nodes) k
profile_of_owner users nodes k owned h =
    let at = list_any_found (λ (n : NodeRow). n.user == k) nodes h in
    let id : at.0.user ≡ k = eqb-true at.0.user k at.2 in
    elim (owned at.0 at.1) [
      | inl user ↦ of_user user.0 user.1 (user.2 ∙ id)
      | inr tagged ↦ of_tagged (owns_any nodes TAGGED_OWNER) (ap (owns_any nodes) (sym tagged ∙ id) ∙ h) (sym tagged ∙ id)
    ]
  where
    front : List Profile
    front = map user_profile (filter (λ u. owns_any nodes u.id) users)

    of_user : (u : User) → Contains users u → u.id ≡ k → HasRow (λ (p : Profile). p.id) (owners_of users nodes) k
    of_user u inside id =
        let owns : owns_any nodes u.id ≡ true = ap (owns_any nodes) id ∙ h in
        let here = filtered_member (λ (z : User). owns_any nodes z.id) users u inside owns in
        let there = map_member user_profile (filter (λ z. owns_any nodes z.id) users) u here in
        (user_profile u, Contains-append_left front (if owns_any nodes TAGGED_OWNER then tagged_profile ∷ [] else []) (user_profile u) there, id)

    of_tagged : (b : Bool) → owns_any nodes TAGGED_OWNER ≡ true → TAGGED_OWNER ≡ k → HasRow (λ (p : Profile). p.id) (owners_of users nodes) k
    of_tagged b e id = (tagged_profile, rw e (Contains-append_right front (tagged_profile ∷ []) tagged_profile (first_member tagged_profile [])), id)

profiles_are : (users : List User) (nodes : List NodeRow) (k : ℕ) → AreOwned users nodes → is_some (row_at (λ (p : Profile). p.id) (owners_of users nodes) k) ≡ owns_any nodes k
profiles_are users nodes k owned =
    same_tests (is_some (row_at (λ (p : Profile). p.id) (owners_of users nodes) k)) (owns_any nodes k)
    (λ h. owner_of_profile users nodes k (id_has (λ (p : Profile). p.id) (owners_of users nodes) k h))
    (λ h. has_id (λ (p : Profile). p.id) (owners_of users nodes) k (profile_of_owner users nodes k owned h))

-- ---- owners

row_owner : (w : Seen) (n : Node) → IsSoundSeen w → Contains w.nodes n → HasRow (λ (u : User). u.id) w.users (own_row w n).user ⊎ ((own_row w n).user ≡ TAGGED_OWNER)
row_owner w n sound inside = go (is_tagged n.row)
  where
    go : (b : Bool) → HasRow (λ (u : User). u.id) w.users (if b then TAGGED_OWNER else n.row.user) ⊎ ((if b then TAGGED_OWNER else n.row.user) ≡ TAGGED_OWNER)
    go true = inr refl
    go false = inl (sound.owners n inside)

all_owned : (w : Seen) (v : Node) → IsSoundSeen w → Contains w.nodes v → AreOwned w.users (own_row w v ∷ peers_of w v)
all_owned w v sound inside p m = elim (cut_member (own_row w v) (peers_of w v) p m) [
  | inl e ↦ subst (λ (z : NodeRow). HasRow (λ (u : User). u.id) w.users z.user ⊎ (z.user ≡ TAGGED_OWNER)) (sym e) (row_owner w v sound inside)
  | inr r ↦
      let at = peer_from w v p r in
      subst (λ (z : NodeRow). HasRow (λ (u : User). u.id) w.users z.user ⊎ (z.user ≡ TAGGED_OWNER)) at.3 (row_owner w at.0 sound at.1)
]

-- The map of a live machine is in order.
pub in_order : (w : Seen) (v : Node) → IsSoundSeen w → Contains w.nodes v → IsInOrder (fresh w v)
in_order w v sound inside = record {
  peers = peers_ascend w v sound;
  own = no_own_peer w v;
  profiles = profiles_ascend w (own_row w v ∷ peers_of w v) sound;
  owners = λ k. profiles_are w.users (own_row w v ∷ peers_of w v) k (all_owned w v sound inside);
}

-- of tables that keep their rules
pub map_in_order : (settings : SettingsFields) (policy : Option Policy) (rows : Rows) (live online : List ℕ) (m : Node) → damage rows ≡ None
    → Contains (seen_of settings policy rows live online).nodes m → IsInOrder (fresh (seen_of settings policy rows live online) m)
map_in_order settings policy rows live online m kept inside =
    in_order (seen_of settings policy rows live online) m (seen_sound settings policy rows live online kept) inside
