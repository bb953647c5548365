-- What a change and patches make of peers.
use Rattle.std.proofs.Common.{◌≡◌, ℕ, true, false, List, [], inl, inr, sym, ◌∙◌, ap, refl, not, filter, ◌&&◌, if◌then◌else◌}
use Rattle.std.specs.Prelude.{Option, Some, None, is_none, is_some, map}
use Rattle.std.specs.Option.{option_and_then, option_map, option_or}
use Rattle.std.proofs.lemmas.Bool.{cases_Bool}
use Rattle.net_rows.specs.Shelf.{IsAscending, row_at}
use Rattle.net_rows.proofs.RowAt.{same_rows}
use Rattle.tailcfg.specs.declared.node_row.NodeRow.{NodeRow}
use Rattle.tailcfg.specs.declared.patch.Patch.{Patch}
use Rattle.peer_view.proofs.ListLemmas.{ascending_filter}
use Rattle.same_maps.specs.Nodes.{same_node_row}
use Rattle.same_maps.proofs.NodeLemmas.{node_itself, nodes_equal}
use Rattle.map_delta.specs.Delta.{can_patch, changed_rows, is_sent_whole, patch_between, patch_for, patches_between, removed_ids}
use Rattle.map_delta.specs.Fold.{lists_id, left_rows, patch_rows}
use Rattle.map_delta.specs.Puts.{node_id, put_rows}
use Rattle.map_delta.proofs.IdLaws.{any_id, ascending_filter_map, ascending_put_rows, kept, row_at-filter, row_at-filter_ids, row_at-filter_map, row_at-put_rows, row_at_id, patch_id}
use Rattle.map_delta.proofs.PatchLemmas.{ascending_patch_rows, patch_rows_at, patched_by, patched_is}

-- the row between a change and patches
abbrev pub middle : Option NodeRow → Option NodeRow → Option NodeRow
middle None n = n
middle (Some a) None = None
middle (Some a) (Some b) = if is_sent_whole (Some a) b then Some b else Some a

abbrev pub middle_rows : List NodeRow → List NodeRow → List NodeRow
middle_rows old new = left_rows (put_rows node_id old (changed_rows old new)) (removed_ids old new)

pub changed_at_id : (old new : List NodeRow) → IsAscending node_id new → (k : ℕ) → row_at node_id (changed_rows old new) k ≡ kept (is_sent_whole (row_at node_id old k)) (row_at node_id new k)
changed_at_id old new h k =
    row_at-filter node_id (λ b. is_sent_whole (row_at node_id old b.id) b) new k h ∙ go (row_at node_id new k) (row_at_id node_id new k)
  where
    go : (o : Option NodeRow) → ((r : NodeRow) → o ≡ Some r → r.id ≡ k) → kept (λ b. is_sent_whole (row_at node_id old b.id) b) o ≡ kept (is_sent_whole (row_at node_id old k)) o
    go None at = refl
    go (Some b) at = let e : b.id ≡ k = at b refl in rw e refl

pub patch_of : (o : Option NodeRow) (b : NodeRow) (p : Patch) → patch_for o b ≡ Some p → p.id ≡ b.id
patch_of None b p e = absurd (cc)
patch_of (Some a) b p e =
    elim (cases_Bool (same_node_row a b)) [
      | inl same ↦ let f : None ≡ Some p = rw same at e in absurd (cc)
      | inr other ↦ elim (cases_Bool (can_patch a b)) [
        | inl can ↦ let f : Some (patch_between a b) ≡ Some p = rw (other, can) at e in let g : patch_between a b ≡ p = cc in sym (ap patch_id g)
        | inr neither ↦ let f : None ≡ Some p = rw (other, neither) at e in absurd (cc)
      ]
    ]

pub patches_at_id : (old new : List NodeRow) → IsAscending node_id new → (k : ℕ) → row_at patch_id (patches_between old new) k ≡ option_and_then (patch_for (row_at node_id old k)) (row_at node_id new k)
patches_at_id old new h k =
    row_at-filter_map node_id patch_id (λ b. patch_for (row_at node_id old b.id) b) (λ b p e. patch_of (row_at node_id old b.id) b p e) new k h
    ∙ go (row_at node_id new k) (row_at_id node_id new k)
  where
    go : (o : Option NodeRow) → ((r : NodeRow) → o ≡ Some r → r.id ≡ k) → option_and_then (λ b. patch_for (row_at node_id old b.id) b) o ≡ option_and_then (patch_for (row_at node_id old k)) o
    go None at = refl
    go (Some b) at = let e : b.id ≡ k = at b refl in rw e refl

pub ascending_patches : (old new : List NodeRow) → IsAscending node_id new → IsAscending patch_id (patches_between old new)
ascending_patches old new h = ascending_filter_map node_id patch_id (λ b. patch_for (row_at node_id old b.id) b) (λ b p e. patch_of (row_at node_id old b.id) b p e) new h

pub middle_ascends : (old new : List NodeRow) → IsAscending node_id old → IsAscending node_id (middle_rows old new)
middle_ascends old new h =
    ascending_filter node_id (λ n. not (lists_id (removed_ids old new) n.id)) (put_rows node_id old (changed_rows old new))
    (ascending_put_rows node_id old (changed_rows old new) h)

middle_at : (old new : List NodeRow) → IsAscending node_id new → (k : ℕ) → row_at node_id (middle_rows old new) k ≡ middle (row_at node_id old k) (row_at node_id new k)
middle_at old new h k =
    row_at-filter_ids node_id (λ j. not (lists_id (removed_ids old new) j)) (put_rows node_id old (changed_rows old new)) k
    ∙ rw (
      any_id node_id (λ j. is_none (row_at node_id new j)) old k,
      row_at-put_rows node_id old (changed_rows old new) k (ascending_filter node_id (λ b. is_sent_whole (row_at node_id old b.id) b) new h),
      changed_at_id old new h k,
    ) (go (row_at node_id old k) (row_at node_id new k))
  where
    go : (o n : Option NodeRow) → (if not (is_none n && is_some o) then option_or (kept (is_sent_whole o) n) o else None) ≡ middle o n
    go None None = refl
    go None (Some b) = refl
    go (Some a) None = refl
    go (Some a) (Some b) = elim (is_sent_whole (Some a) b) as (λ w. option_or (if w then Some b else None) (Some a) ≡ (if w then Some b else Some a)) [ true ↦ refl | false ↦ refl ]

last : (o n : Option NodeRow) → option_map (patched_by (option_and_then (patch_for o) n)) (middle o n) ≡ n
last None None = refl
last None (Some b) = refl
last (Some a) None = refl
last (Some a) (Some b) =
    elim (cases_Bool (same_node_row a b)) [
      | inl same ↦ rw same (ap Some (nodes_equal a b same))
      | inr other ↦ elim (cases_Bool (can_patch a b)) [
        | inl can ↦ rw (other, can) (ap Some (patched_is a b can))
        | inr neither ↦ rw (other, neither) refl
      ]
    ]

-- a change and then the patches make the new peers
pub rows_are : (old new : List NodeRow) → IsAscending node_id old → IsAscending node_id new → patch_rows (middle_rows old new) (patches_between old new) ≡ new
rows_are old new ho hn =
    same_rows node_id (patch_rows (middle_rows old new) (patches_between old new)) new
    (ascending_patch_rows (patches_between old new) (middle_rows old new) (middle_ascends old new ho))
    hn
    (λ k. patch_rows_at (patches_between old new) (middle_rows old new) k (ascending_patches old new hn)
    ∙ rw (patches_at_id old new hn k, middle_at old new hn k) (last (row_at node_id old k) (row_at node_id new k)))

-- ---- where nothing differs

pub no_whole : (o : Option NodeRow) → kept (is_sent_whole o) o ≡ None
no_whole None = refl
no_whole (Some a) = rw (node_itself a) refl

pub no_patch : (o : Option NodeRow) → option_and_then (patch_for o) o ≡ None
no_patch None = refl
no_patch (Some a) = rw (node_itself a) refl

pub nothing_changed : (rows : List NodeRow) → IsAscending node_id rows → changed_rows rows rows ≡ []
nothing_changed rows h =
    same_rows node_id (changed_rows rows rows) [] (ascending_filter node_id (λ b. is_sent_whole (row_at node_id rows b.id) b) rows h) tt
    (λ k. changed_at_id rows rows h k ∙ no_whole (row_at node_id rows k))

pub nothing_patched : (rows : List NodeRow) → IsAscending node_id rows → patches_between rows rows ≡ []
nothing_patched rows h =
    same_rows patch_id (patches_between rows rows) [] (ascending_patches rows rows h) tt
    (λ k. patches_at_id rows rows h k ∙ no_patch (row_at node_id rows k))

pub nothing_removed : (rows : List NodeRow) → IsAscending node_id rows → removed_ids rows rows ≡ []
nothing_removed rows h =
    ap (map node_id) (same_rows node_id (filter (λ a. is_none (row_at node_id rows a.id)) rows) [] (ascending_filter node_id (λ a. is_none (row_at node_id rows a.id)) rows h) tt
    (λ k. row_at-filter_ids node_id (λ j. is_none (row_at node_id rows j)) rows k ∙ go (row_at node_id rows k)))
  where
    go : (o : Option NodeRow) → (if is_none o then o else None) ≡ None
    go None = refl
    go (Some a) = refl
