-- What differs is found at listed ids, where all else is equal.
use Rattle.std.proofs.Common.{◌≡◌, ℕ, Bool, true, false, List, [], ◌∷◌, inl, inr, sym, ◌∙◌, ap, refl, ◌==◌, filter, if◌then◌else◌}
use Rattle.std.specs.Prelude.{Option, Some, None, is_none}
use Rattle.std.specs.List.{filter_map}
use Rattle.std.specs.Option.{option_and_then, option_map}
use Rattle.std.proofs.lemmas.Bool.{cases_Bool, eqb-true}
use Rattle.net_rows.specs.Shelf.{IsAscending, row_at}
use Rattle.net_rows.proofs.RowAt.{same_rows}
use Rattle.tailcfg.specs.declared.node_row.NodeRow.{NodeRow}
use Rattle.tailcfg.specs.declared.patch.Patch.{Patch}
use Rattle.peer_view.proofs.ListLemmas.{ascending_filter, ascending_map}
use Rattle.same_maps.proofs.NodeLemmas.{node_itself}
use Rattle.map_delta.specs.Delta.{changed_rows, is_sent_whole, patch_for, patches_between, removed_ids}
use Rattle.map_delta.specs.Fold.{lists_id}
use Rattle.map_delta.specs.Listed.{changed_listed, gone_at, patch_at, patches_listed, removed_listed, whole_at}
use Rattle.map_delta.specs.Puts.{node_id}
use Rattle.map_delta.proofs.IdLaws.{ascending_filter_map, kept, row_at-filter_ids, row_at-filter_map, row_at-map, row_at_id, patch_id}
use Rattle.map_delta.proofs.PeerLemmas.{ascending_patches, changed_at_id, patch_of, patches_at_id}

abbrev number : ℕ → ℕ
number k = k

-- a number is found at itself, if it is listed
number_at : (ks : List ℕ) (k : ℕ) → row_at number ks k ≡ (if lists_id ks k then Some k else None)
number_at [] k = refl
number_at (x ∷ ks) k =
    let rest = number_at ks k in
    elim (cases_Bool (x == k)) [
      | inl here ↦ let e : x ≡ k = eqb-true x k here in rw here (ap Some e)
      | inr other ↦ rw other rest
    ]

listed_only : {U : Type 0} (b : Bool) (k : ℕ) (f : ℕ → Option U) → (b ≡ false → f k ≡ None) → option_and_then f (if b then Some k else None) ≡ f k
listed_only true k f h = refl
listed_only false k f h = sym (h refl)

-- what a list of ids gives at an id, where an id that isn't listed gives nothing
at_listed : {U : Type 0} (id : U → ℕ) (f : ℕ → Option U) → ((k : ℕ) (u : U) → f k ≡ Some u → id u ≡ k) → (ids : List ℕ) → IsAscending number ids
    → (k : ℕ) → (lists_id ids k ≡ false → f k ≡ None) → row_at id (filter_map f ids) k ≡ f k
at_listed id f named ids h k none =
    row_at-filter_map number id f named ids k h
    ∙ ap (option_and_then f) (number_at ids k)
    ∙ listed_only (lists_id ids k) k f none

whole_of : (o n : Option NodeRow) (k : ℕ) → ((r : NodeRow) → n ≡ Some r → r.id ≡ k) → (r : NodeRow) → whole_at o n ≡ Some r → r.id ≡ k
whole_of o None k at r e = absurd (cc)
whole_of o (Some b) k at r e = elim (cases_Bool (is_sent_whole o b)) [
  | inl w ↦ let f : Some b ≡ Some r = rw w at e in at r f
  | inr w ↦ let f : None ≡ Some r = rw w at e in absurd (cc)
]

whole_is : (o n : Option NodeRow) → whole_at o n ≡ kept (is_sent_whole o) n
whole_is o None = refl
whole_is o (Some b) = refl

no_whole_at : (o : Option NodeRow) → whole_at o o ≡ None
no_whole_at None = refl
no_whole_at (Some a) = rw (node_itself a) refl

pub changed_are : (ids : List ℕ) (old new : List NodeRow) → IsAscending (λ k. k) ids → IsAscending node_id new
    → ((k : ℕ) → lists_id ids k ≡ false → row_at node_id old k ≡ row_at node_id new k) → changed_listed ids old new ≡ changed_rows old new
changed_are ids old new hi hn same =
    same_rows node_id (changed_listed ids old new) (changed_rows old new)
    (ascending_filter_map number node_id whole named ids hi)
    (ascending_filter node_id (λ b. is_sent_whole (row_at node_id old b.id) b) new hn)
    (λ k. at_listed node_id whole named ids hi k (λ bare. ap (λ o. whole_at o (row_at node_id new k)) (same k bare) ∙ no_whole_at (row_at node_id new k))
    ∙ whole_is (row_at node_id old k) (row_at node_id new k) ∙ sym (changed_at_id old new hn k))
  where
    whole : ℕ → Option NodeRow
    whole k = whole_at (row_at node_id old k) (row_at node_id new k)

    named : (k : ℕ) (r : NodeRow) → whole k ≡ Some r → node_id r ≡ k
    named k r e = whole_of (row_at node_id old k) (row_at node_id new k) k (row_at_id node_id new k) r e

no_patch_at : (o : Option NodeRow) → patch_at o o ≡ None
no_patch_at None = refl
no_patch_at (Some a) = rw (node_itself a) refl

patch_named : (o n : Option NodeRow) (k : ℕ) → ((r : NodeRow) → n ≡ Some r → r.id ≡ k) → (p : Patch) → patch_at o n ≡ Some p → p.id ≡ k
patch_named o None k at p e = absurd (cc)
patch_named o (Some b) k at p e = patch_of o b p e ∙ at b refl

patch_is : (o n : Option NodeRow) → patch_at o n ≡ option_and_then (patch_for o) n
patch_is o None = refl
patch_is o (Some b) = refl

pub patches_are : (ids : List ℕ) (old new : List NodeRow) → IsAscending (λ k. k) ids → IsAscending node_id new
    → ((k : ℕ) → lists_id ids k ≡ false → row_at node_id old k ≡ row_at node_id new k) → patches_listed ids old new ≡ patches_between old new
patches_are ids old new hi hn same =
    same_rows patch_id (patches_listed ids old new) (patches_between old new)
    (ascending_filter_map number patch_id patch named ids hi)
    (ascending_patches old new hn)
    (λ k. at_listed patch_id patch named ids hi k (λ bare. ap (λ o. patch_at o (row_at node_id new k)) (same k bare) ∙ no_patch_at (row_at node_id new k))
    ∙ patch_is (row_at node_id old k) (row_at node_id new k) ∙ sym (patches_at_id old new hn k))
  where
    patch : ℕ → Option Patch
    patch k = patch_at (row_at node_id old k) (row_at node_id new k)

    named : (k : ℕ) (p : Patch) → patch k ≡ Some p → patch_id p ≡ k
    named k p e = patch_named (row_at node_id old k) (row_at node_id new k) k (row_at_id node_id new k) p e

no_gone_at : (k : ℕ) (o : Option NodeRow) → gone_at k o o ≡ None
no_gone_at k None = refl
no_gone_at k (Some a) = refl

gone_named : (k : ℕ) (o n : Option NodeRow) (u : ℕ) → gone_at k o n ≡ Some u → u ≡ k
gone_named k None n u e = absurd (cc)
gone_named k (Some a) None u e = cc
gone_named k (Some a) (Some b) u e = absurd (cc)

-- the id of what was there and is gone
gone_is : (k : ℕ) (o n : Option NodeRow) → ((r : NodeRow) → o ≡ Some r → r.id ≡ k) → gone_at k o n ≡ option_map node_id (if is_none n then o else None)
gone_is k None None at = refl
gone_is k None (Some b) at = refl
gone_is k (Some a) None at = ap Some (sym (at a refl))
gone_is k (Some a) (Some b) at = refl

pub removed_are : (ids : List ℕ) (old new : List NodeRow) → IsAscending (λ k. k) ids → IsAscending node_id old
    → ((k : ℕ) → lists_id ids k ≡ false → row_at node_id old k ≡ row_at node_id new k) → removed_listed ids old new ≡ removed_ids old new
removed_are ids old new hi ho same =
    same_rows number (removed_listed ids old new) (removed_ids old new)
    (ascending_filter_map number number gone named ids hi)
    (ascending_map node_id node_id number (λ x. refl) (filter left old) (ascending_filter node_id left old ho))
    (λ k. at_listed number gone named ids hi k (λ bare. ap (λ o. gone_at k o (row_at node_id new k)) (same k bare) ∙ no_gone_at k (row_at node_id new k))
    ∙ gone_is k (row_at node_id old k) (row_at node_id new k) (row_at_id node_id old k)
    ∙ ap (option_map node_id) (sym (row_at-filter_ids node_id (λ j. is_none (row_at node_id new j)) old k))
    ∙ sym (row_at-map node_id number node_id (λ x. refl) (filter left old) k))
  where
    left : NodeRow → Bool
    left a = is_none (row_at node_id new a.id)

    gone : ℕ → Option ℕ
    gone k = gone_at k (row_at node_id old k) (row_at node_id new k)

    named : (k : ℕ) (u : ℕ) → gone k ≡ Some u → number u ≡ k
    named k u e = gone_named k (row_at node_id old k) (row_at node_id new k) u e
