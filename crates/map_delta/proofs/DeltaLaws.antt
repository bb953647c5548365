-- Folding a delta brings the old view to the new one.
use Rattle.std.proofs.Common.{◌≡◌, ◌+◌, ℕ, Bool, true, List, [], ◌∷◌, sym, ◌∙◌, ap, refl, ◌==◌, filter, ◌||◌, if◌then◌else◌, inl, inr}
use Rattle.std.specs.Prelude.{Option, Some, None, is_none, is_some, unwrap_or}
use Rattle.std.specs.Option.{option_map}
use Rattle.std.proofs.lemmas.Bool.{cases_Bool, false≢true}
use Rattle.tail_base.proofs.Bools.{all6}
use Rattle.net_rows.specs.Shelf.{IsAscending, row_at}
use Rattle.tailcfg.specs.declared.dns.Dns.{Dns}
use Rattle.tailcfg.specs.declared.filter.FilterRule.{FilterRule}
use Rattle.tailcfg.specs.declared.node_row.NodeRow.{NodeRow}
use Rattle.tailcfg.specs.declared.patch.Patch.{Patch}
use Rattle.tailcfg.specs.declared.response.Response.{Response}
use Rattle.same_maps.specs.Dns.{same_dns}
use Rattle.same_maps.specs.Filters.{same_filter}
use Rattle.same_maps.specs.Nodes.{same_node_row}
use Rattle.same_maps.proofs.DnsLemmas.{dns_equal, dns_itself}
use Rattle.same_maps.proofs.FilterLemmas.{filter_itself, filters_equal}
use Rattle.same_maps.proofs.NodeLemmas.{node_itself, nodes_equal}
use Rattle.fresh_maps.specs.InOrder.{IsInOrder}
use Rattle.fresh_maps.specs.Profiles.{owns_any}
use Rattle.fresh_maps.specs.declared.view.View.{View}
use Rattle.map_delta.specs.Delta.{change, delta, is_empty, is_nil, new_profiles, patches_between, patching, then_patch, new_unless}
use Rattle.map_delta.specs.Fold.{applied, fold_all, left_rows, patch_rows, peers_after, start}
use Rattle.map_delta.specs.Puts.{profile_id, put_rows}
use Rattle.map_delta.proofs.PatchLemmas.{owners_patched}
use Rattle.map_delta.proofs.PeerLemmas.{middle_rows, nothing_changed, nothing_patched, nothing_removed, rows_are}
use Rattle.map_delta.proofs.ProfileLemmas.{nothing_new, profiles_are, profiles_stay}

pub drop_none : (rows : List NodeRow) → left_rows rows [] ≡ rows
drop_none [] = refl
drop_none (r ∷ rows) = ap (λ rest. r ∷ rest) (drop_none rows)

-- ---- what is given where it differs

node_given : (a b : NodeRow) → unwrap_or (new_unless (same_node_row a b) b) a ≡ b
node_given a b = elim (cases_Bool (same_node_row a b)) [ inl same ↦ rw same (nodes_equal a b same) | inr other ↦ rw other refl ]

filter_given : (a b : List FilterRule) → unwrap_or (new_unless (same_filter a b) b) a ≡ b
filter_given a b = elim (cases_Bool (same_filter a b)) [ inl same ↦ rw same (filters_equal a b same) | inr other ↦ rw other refl ]

dns_given : (a b : Dns) → unwrap_or (new_unless (same_dns a b) b) a ≡ b
dns_given a b = elim (cases_Bool (same_dns a b)) [ inl same ↦ rw same (dns_equal a b same) | inr other ↦ rw other refl ]

-- ---- a change

-- the view after a change, before patches
abbrev between : View → View → View
between old new = record new { peers = middle_rows old.peers new.peers }

middle_owners : (old new : View) → IsInOrder old → IsInOrder new → (k : ℕ) → owns_any (new.node ∷ middle_rows old.peers new.peers) k ≡ owns_any (new.node ∷ new.peers) k
middle_owners old new ho hn k =
    ap (λ b. (new.node.user == k) || b)
    (sym (owners_patched (patches_between old.peers new.peers) (middle_rows old.peers new.peers) k) ∙ ap (λ rows. owns_any rows k) (rows_are old.peers new.peers ho.peers hn.peers))

change_gives : (old new : View) (seq : ℕ) → IsInOrder old → IsInOrder new → old.domain ≡ new.domain → applied (change old new seq) old ≡ between old new
change_gives old new seq ho hn domain =
    let node : unwrap_or (new_unless (same_node_row old.node new.node) new.node) old.node ≡ new.node = node_given old.node new.node in
    λ i. record {
      node = node i;
      peers = middle_rows old.peers new.peers;
      filter = filter_given old.filter new.filter i;
      dns = dns_given old.dns new.dns i;
      domain = domain i;
      profiles = (ap (λ (own : ℕ → Bool). filter (λ p. own p.id) (put_rows profile_id old.profiles (new_profiles old.profiles new.profiles))) (λ j k. owns_any (node j ∷ middle_rows old.peers new.peers) k)
          ∙ profiles_are old.profiles new.profiles (λ k. owns_any (new.node ∷ middle_rows old.peers new.peers) k) ho.profiles hn.profiles (λ k. hn.owners k ∙ sym (middle_owners old new ho hn k))) i;
    }

-- ---- patches

patching_gives : (ps : List Patch) (seq : ℕ) (v : View) (rows : List NodeRow) → patch_rows v.peers ps ≡ rows → IsAscending profile_id v.profiles
    → ((k : ℕ) → is_some (row_at profile_id v.profiles k) ≡ owns_any (v.node ∷ rows) k) → applied (patching ps seq) v ≡ record v { peers = rows }
patching_gives ps seq v rows is rises owners =
    let peers : peers_after (patching ps seq) v.peers ≡ rows = ap (λ nodes. patch_rows nodes ps) (drop_none v.peers) ∙ is in
    λ i. record {
      node = v.node;
      peers = peers i;
      filter = v.filter;
      dns = v.dns;
      domain = v.domain;
      profiles = (ap (λ (own : ℕ → Bool). filter (λ p. own p.id) v.profiles) (λ j k. owns_any (v.node ∷ peers j) k) ∙ profiles_stay v.profiles (λ k. owns_any (v.node ∷ rows) k) rises owners) i;
    }

no_row : {T : Type 0} (o : Option T) → is_none o ≡ true → o ≡ None
no_row None h = refl
no_row (Some x) h = absurd (false≢true h)

no_rows : {T : Type 0} (xs : List T) → is_nil xs ≡ true → xs ≡ []
no_rows [] h = refl
no_rows (x ∷ xs) h = absurd (false≢true h)

empty_change : (old new : View) (seq : ℕ) → is_empty (change old new seq) ≡ true → change old new seq ≡ patching [] seq
empty_change old new seq h =
    let c = change old new seq in
    let p = all6 (is_none c.node) (is_none c.filter) (is_none c.dns) (is_nil c.changed) (is_nil c.removed) (is_nil c.profiles) h in
    λ i. record {
      handle = None;
      seq = Some seq;
      node = no_row c.node p.0 i;
      filter = no_row c.filter p.1 i;
      dns = no_row c.dns p.2 i;
      domain = None;
      peers = [];
      changed = no_rows c.changed p.3 i;
      removed = no_rows c.removed p.4 i;
      patches = [];
      profiles = no_rows c.profiles p.5 i;
    }

start_stays : (v : View) (n : Option NodeRow) → start (Some v) None n ≡ Some v
start_stays v None = refl
start_stays v (Some n) = refl

-- the patches, from the view between
then_gives : (old new : View) (seq : ℕ) → IsInOrder old → IsInOrder new → (ps : List Patch) → ps ≡ patches_between old.peers new.peers
    → fold_all (Some (between old new)) (then_patch ps seq) ≡ Some new
then_gives old new seq ho hn [] is =
    ap Some (ap (λ rows. record new { peers = rows }) (ap (patch_rows (middle_rows old.peers new.peers)) is ∙ rows_are old.peers new.peers ho.peers hn.peers))
then_gives old new seq ho hn (p ∷ ps) is =
    ap Some (patching_gives (p ∷ ps) seq (between old new) new.peers (ap (patch_rows (middle_rows old.peers new.peers)) is ∙ rows_are old.peers new.peers ho.peers hn.peers) hn.profiles hn.owners)

pub delta_law : (old new : View) (seq : ℕ) → IsInOrder old → IsInOrder new → old.domain ≡ new.domain → fold_all (Some old) (delta old new seq) ≡ Some new
delta_law old new seq ho hn domain =
    elim (cases_Bool (is_empty (change old new (seq + 1)))) [
      | inl nothing ↦
          let stays : old ≡ between old new =
          sym (ap (λ r. applied r old) (empty_change old new (seq + 1) nothing) ∙ patching_gives [] (seq + 1) old old.peers refl ho.profiles ho.owners)
          ∙ change_gives old new (seq + 1) ho hn domain in
          rw nothing (ap (λ v. fold_all (Some v) (then_patch (patches_between old.peers new.peers) (seq + 1))) stays ∙ then_gives old new (seq + 1) ho hn (patches_between old.peers new.peers) refl)
      | inr something ↦
          rw something (
          ap (λ v. fold_all (option_map (applied (change old new (seq + 1))) v) (then_patch (patches_between old.peers new.peers) (seq + 2))) (start_stays old (change old new (seq + 1)).node)
          ∙ ap (λ v. fold_all (Some v) (then_patch (patches_between old.peers new.peers) (seq + 2))) (change_gives old new (seq + 1) ho hn domain)
          ∙ then_gives old new (seq + 2) ho hn (patches_between old.peers new.peers) refl)
    ]

-- ---- where nothing differs

no_change : (v : View) (seq : ℕ) → IsInOrder v → change v v seq ≡ patching [] seq
no_change v seq h = λ i. record {
  handle = None;
  seq = Some seq;
  node = ap (λ b. new_unless b v.node) (node_itself v.node) i;
  filter = ap (λ b. new_unless b v.filter) (filter_itself v.filter) i;
  dns = ap (λ b. new_unless b v.dns) (dns_itself v.dns) i;
  domain = None;
  peers = [];
  changed = nothing_changed v.peers h.peers i;
  removed = nothing_removed v.peers h.peers i;
  patches = [];
  profiles = nothing_new v.profiles h.profiles i;
}

pub nothing_sent : (v : View) (seq : ℕ) → IsInOrder v → delta v v seq ≡ []
nothing_sent v seq h =
    ap (λ (c : Response). if is_empty c then then_patch (patches_between v.peers v.peers) (seq + 1) else c ∷ then_patch (patches_between v.peers v.peers) (seq + 2)) (no_change v (seq + 1) h)
    ∙ ap (λ (ps : List Patch). then_patch ps (seq + 1)) (nothing_patched v.peers h.peers)
