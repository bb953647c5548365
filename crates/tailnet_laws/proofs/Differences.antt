-- What the responses of a delta name differs between the two maps.
use Rattle.std.proofs.Common.{◌≡◌, ◌≢◌, ◌+◌, ◌∙◌, ◌==◌, ◌⊎◌, ℕ, Bool, true, false, List, [], ◌∷◌, Option, Some, None, inl, inr, refl, sym, ap, subst, if◌then◌else◌}
use Rattle.std.specs.Prelude.{Contains, filter, is_none}
use Rattle.std.specs.Bool.{beq}
use Rattle.std.specs.Cmp.Lexicographic.{pointwise}
use Rattle.std.specs.Str.{bytes_eq}
use Rattle.std.proofs.lemmas.Bool.{both_ways, eq-eqb}
use Rattle.tail_base.specs.declared.key.DiscoKey.{DiscoKey}
use Rattle.tail_base.proofs.Bools.{bytes_eq-from}
use Rattle.net_rows.specs.Shelf.{row_at}
use Rattle.net_rows.proofs.Members.{cut_member, find_none, no_member}
use Rattle.net_rows.proofs.RowAt.{row_at_is}
use Rattle.tailcfg.specs.declared.node_row.NodeRow.{NodeRow}
use Rattle.tailcfg.specs.declared.patch.Patch.{Patch}
use Rattle.tailcfg.specs.declared.profile.Profile.{Profile}
use Rattle.tailcfg.specs.declared.response.Response.{Response}
use Rattle.peer_view.proofs.ListLemmas.{filter_member, filtered_passes, mapped_member}
use Rattle.same_maps.specs.Dns.{same_dns}
use Rattle.same_maps.specs.Filters.{same_filter}
use Rattle.same_maps.specs.Nodes.{same_node_row}
use Rattle.same_maps.specs.Parts.{same_endpoint}
use Rattle.same_maps.proofs.DnsLemmas.{dns_itself}
use Rattle.same_maps.proofs.FilterLemmas.{filter_itself}
use Rattle.same_maps.proofs.NodeLemmas.{node_itself, profile_itself}
use Rattle.same_maps.proofs.PartLemmas.{endpoint_itself, list_itself}
use Rattle.fresh_maps.specs.InOrder.{IsInOrder}
use Rattle.fresh_maps.specs.declared.view.View.{View}
use Rattle.map_delta.specs.Delta.{can_patch, change, delta, is_empty, is_new_profile, is_sent_whole, new_unless, patch_between, patch_for, patches_between, patching, then_patch}
use Rattle.map_delta.specs.Puts.{node_id, profile_id}
use Rattle.map_delta.proofs.IdLaws.{filter_map_member}
use Rattle.tailnet_laws.specs.Differences.{IsUnnamed, NamesDifferences, PatchesDifference}

-- ---- what is given where it isn't as it was

new_given : {A : Type 0} (b : Bool) (x y : A) → new_unless b x ≡ Some y → (b ≡ false) × (y ≡ x)
new_given true x y h = absurd (cc)
new_given false x y h = (refl, cc)

differs_by : {A : Type 0} (test : A → A → Bool) → ((x : A) → test x x ≡ true) → (a b y : A) → test a b ≡ false → y ≡ b → y ≢ a
differs_by {A} test itself a b y fails is e =
    let same : a ≡ b = sym e ∙ is in
    both_ways (test a b) fails (subst (λ (z : A). test a z ≡ true) same (itself a))

given_differs : {A : Type 0} (test : A → A → Bool) → ((x : A) → test x x ≡ true) → (a b y : A) → new_unless (test a b) b ≡ Some y → (y ≡ b) × (y ≢ a)
given_differs test itself a b y h =
    let new = new_given (test a b) b y h in
    (new.1, differs_by test itself a b y new.0 new.1)

nothing_given : {A : Type 0} (y : A) → None ≡ Some y → ⊥
nothing_given y h = absurd (cc)

-- ---- rows and profiles that are sent whole

whole_differs : (o : Option NodeRow) (b : NodeRow) → is_sent_whole o b ≡ true → o ≢ Some b
whole_differs o b sent is =
    let whole : is_sent_whole (Some b) b ≡ true = subst (λ (z : Option NodeRow). is_sent_whole z b ≡ true) is sent in
    let itself : same_node_row b b ≡ true = node_itself b in
    let clash : false ≡ true = rw itself at whole in
    absurd (cc)

profile_differs : (o : Option Profile) (b : Profile) → is_new_profile o b ≡ true → o ≢ Some b
profile_differs o b sent is =
    let new : is_new_profile (Some b) b ≡ true = subst (λ (z : Option Profile). is_new_profile z b ≡ true) is sent in
    let itself = profile_itself b in
    let clash : false ≡ true = rw itself at new in
    absurd (cc)

none_is : {A : Type 0} (o : Option A) → is_none o ≡ true → o ≡ None
none_is None h = refl
none_is (Some x) h = absurd (cc)

-- ---- patches

beq_itself : (b : Bool) → beq b b ≡ true
beq_itself true = refl
beq_itself false = refl

-- which row is patched, and how
record IsPatched (o : Option NodeRow) (b : NodeRow) (p : Patch) : Type 0 where
  was : NodeRow
  there : o ≡ Some was
  other : same_node_row was b ≡ false
  is : p ≡ patch_between was b

patch_if : (same fits : Bool) (x p : Patch) → (if same then None else if fits then Some x else None) ≡ Some p → (same ≡ false) × (p ≡ x)
patch_if true fits x p h = absurd (cc)
patch_if false true x p h = (refl, cc)
patch_if false false x p h = absurd (cc)

patch_of : (o : Option NodeRow) (b : NodeRow) (p : Patch) → patch_for o b ≡ Some p → IsPatched o b p
patch_of None b p h = absurd (cc)
patch_of (Some a) b p h =
    let parts = patch_if (same_node_row a b) (can_patch a b) (patch_between a b) p h in
    record { was = a; there = refl; other = parts.0; is = parts.1 }

patch_differs : (old new : List NodeRow) (p : Patch) → Contains (patches_between old new) p → PatchesDifference old new p
patch_differs old new p inside =
    let from = filter_map_member (λ (b : NodeRow). patch_for (row_at node_id old b.id) b) new p inside in
    let b = from.0 in
    let x = patch_of (row_at node_id old b.id) b p from.2 in
    let a = x.was in
    let made = patch_between a b in
    let id : b.id ≡ p.id = ap (λ (q : Patch). q.id) (sym x.is) in
    record {
      was = a;
      now = b;
      was_there = ap (λ (k : ℕ). row_at node_id old k) (sym id) ∙ x.there;
      now_there = from.1;
      id = id;
      differs = λ e. both_ways (same_node_row a b) x.other (subst (λ (z : NodeRow). same_node_row a z ≡ true) e (node_itself a));
      endpoints = λ given h. given_differs (pointwise same_endpoint) (list_itself same_endpoint endpoint_itself) a.endpoints b.endpoints given
          (ap (λ (q : Patch). q.endpoints) (sym x.is) ∙ h);
      derp = λ given h. given_differs (λ (m n : ℕ). m == n) (λ n. eq-eqb n n refl) a.derp b.derp given (ap (λ (q : Patch). q.derp) (sym x.is) ∙ h);
      disco = λ given h. given_differs (λ (m n : DiscoKey). bytes_eq m.0 n.0) (λ n. bytes_eq-from n.0 n.0 refl) a.disco b.disco given
          (ap (λ (q : Patch). q.disco) (sym x.is) ∙ h);
      online = λ given h. given_differs beq beq_itself a.online b.online given (ap (λ (q : Patch). q.online) (sym x.is) ∙ h);
    }

-- ---- responses

change_names : (old new : View) (seq : ℕ) → NamesDifferences old new (change old new seq)
change_names old new seq = record {
  node = λ given h. given_differs same_node_row node_itself old.node new.node given h;
  filter = λ given h. given_differs same_filter filter_itself old.filter new.filter given h;
  dns = λ given h. given_differs same_dns dns_itself old.dns new.dns given h;
  changed = λ row inside.
      let test = λ (b : NodeRow). is_sent_whole (row_at node_id old.peers b.id) b in
      (filter_member test new.peers row inside, whole_differs (row_at node_id old.peers row.id) row (filtered_passes test new.peers row inside));
  removed = λ id inside.
      let test = λ (a : NodeRow). is_none (row_at node_id new.peers a.id) in
      let from = mapped_member node_id (filter test old.peers) id inside in
      let gone = none_is (row_at node_id new.peers from.0.id) (filtered_passes test old.peers from.0 from.1) in
      ((from.0, filter_member test old.peers from.0 from.1, from.2), subst (λ (k : ℕ). row_at node_id new.peers k ≡ None) from.2 gone);
  patches = λ p inside. absurd (no_member p inside);
  profiles = λ profile inside.
      let test = λ (b : Profile). is_new_profile (row_at profile_id old.profiles b.id) b in
      (filter_member test new.profiles profile inside, profile_differs (row_at profile_id old.profiles profile.id) profile (filtered_passes test new.profiles profile inside));
  peers = refl;
  domain = refl;
}

patching_names : (old new : View) (seq : ℕ) → NamesDifferences old new (patching (patches_between old.peers new.peers) seq)
patching_names old new seq = record {
  node = λ given h. absurd (nothing_given given h);
  filter = λ given h. absurd (nothing_given given h);
  dns = λ given h. absurd (nothing_given given h);
  changed = λ row inside. absurd (no_member row inside);
  removed = λ id inside. absurd (no_member id inside);
  patches = λ p inside. patch_differs old.peers new.peers p inside;
  profiles = λ profile inside. absurd (no_member profile inside);
  peers = refl;
  domain = refl;
}

patch_response : (ps : List Patch) (seq : ℕ) (r : Response) → Contains (then_patch ps seq) r → r ≡ patching ps seq
patch_response [] seq r h = absurd (no_member r h)
patch_response (p ∷ ps) seq r h = elim (cut_member (patching (p ∷ ps) seq) [] r h) [ inl e ↦ e | inr none ↦ absurd (no_member r none) ]

-- the change, or the patches
either_response : (b : Bool) (c : Response) (ps : List Patch) (seq : ℕ) (r : Response) → Contains (if b then then_patch ps (seq + 1) else c ∷ then_patch ps (seq + 2)) r
    → (r ≡ c) ⊎ ((n : ℕ) × (r ≡ patching ps n))
either_response true c ps seq r h = inr (seq + 1, patch_response ps (seq + 1) r h)
either_response false c ps seq r h = elim (cut_member c (then_patch ps (seq + 2)) r h) [
  | inl e ↦ inl e
  | inr more ↦ inr (seq + 2, patch_response ps (seq + 2) r more)
]

pub delta_names : (old new : View) (seq : ℕ) (r : Response) → Contains (delta old new seq) r → NamesDifferences old new r
delta_names old new seq r h =
    let c = change old new (seq + 1) in
    let ps = patches_between old.peers new.peers in
    elim (either_response (is_empty c) c ps seq r h) [
      | inl is ↦ subst (NamesDifferences old new) (sym is) (change_names old new (seq + 1))
      | inr patches ↦ subst (NamesDifferences old new) (sym patches.1) (patching_names old new patches.0)
    ]

-- what is equal isn't named
pub equal_unnamed : (old new : View) (seq : ℕ) (r : Response) (id : ℕ) → IsInOrder new → row_at node_id old.peers id ≡ row_at node_id new.peers id → Contains (delta old new seq) r → IsUnnamed r id
equal_unnamed old new seq r id order equal inside =
    let names = delta_names old new seq r inside in
    record {
      changed = λ row there is.
          let named = names.changed row there in
          let found : row_at node_id new.peers row.id ≡ Some row = row_at_is node_id new.peers row order.peers named.0 in
          let was : row_at node_id old.peers row.id ≡ row_at node_id new.peers row.id = subst (λ (k : ℕ). row_at node_id old.peers k ≡ row_at node_id new.peers k) (sym is) equal in
          named.1 (was ∙ found);
      removed = λ there.
          let named = names.removed id there in
          let row = named.0 in
          let fails : (row.0.id == id) ≡ false = find_none (λ (n : NodeRow). n.id == id) old.peers (equal ∙ named.1) row.0 row.1 in
          both_ways (row.0.id == id) fails (eq-eqb row.0.id id row.2);
      patches = λ p there is.
          let named = names.patches p there in
          let found : row_at node_id new.peers named.now.id ≡ Some named.now = row_at_is node_id new.peers named.now order.peers named.now_there in
          let at : row_at node_id new.peers id ≡ Some named.now = ap (λ (k : ℕ). row_at node_id new.peers k) (sym (named.id ∙ is)) ∙ found in
          let was : row_at node_id old.peers id ≡ Some named.was = ap (λ (k : ℕ). row_at node_id old.peers k) (sym is) ∙ named.was_there in
          let both : Some named.was ≡ Some named.now = sym was ∙ equal ∙ at in
          let same : named.was ≡ named.now = cc in
          named.differs same;
    }
