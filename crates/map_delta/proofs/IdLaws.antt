-- What is at each id, in lists by ascending id.
use Rattle.std.proofs.Common.{◌≡◌, ◌<◌, ℕ, Bool, true, false, List, [], ◌∷◌, arith, inl, inr, sym, ◌∙◌, ap, refl, ◌==◌, ◌&&◌, if◌then◌else◌}
use Rattle.std.specs.Prelude.{Contains, Option, Some, None, filter, is_some, map}
use Rattle.std.specs.List.{cons_option, filter_map, list_any}
use Rattle.std.specs.Option.{option_and_then, option_map, option_or}
use Rattle.std.proofs.lemmas.Bool.{cases_Bool, eqb-true}
use Rattle.net_rows.specs.Shelf.{IsAscending, put_row, row_at}
use Rattle.net_rows.proofs.Members.{cut_member, find_member, first_member, no_member, rest_member}
use Rattle.net_rows.proofs.MapLemmas.{row_at-put_row}
use Rattle.net_rows.proofs.PutLemmas.{IsAscending-put}
use Rattle.net_rows.proofs.RowAt.{row_at_below}
use Rattle.peer_view.proofs.ListLemmas.{filter_member}
use Rattle.map_delta.specs.Puts.{put_rows}
use Rattle.tailcfg.specs.declared.patch.Patch.{Patch}

-- the id of a patch
abbrev pub patch_id : Patch → ℕ
patch_id patch = patch.id

-- what an option holds, if it passes
abbrev pub kept : {T : Type 0} → (T → Bool) → Option T → Option T
kept p None = None
kept p (Some x) = if p x then Some x else None

-- what is found has the id
pub row_at_id : {T : Type 0} (id : T → ℕ) (xs : List T) (k : ℕ) (x : T) → row_at id xs k ≡ Some x → id x ≡ k
row_at_id id xs k x h = let at = find_member (λ y. id y == k) xs x h in eqb-true (id x) k at.1

-- behind a row no other has its id
pub none_behind : {T : Type 0} (id : T → ℕ) (x : T) (xs : List T) (k : ℕ) → ((y : T) → Contains xs y → id x < id y) → id x ≡ k → row_at id xs k ≡ None
none_behind {T} id x xs k above e = row_at_below id xs k (λ y m. let l : id x < id y = above y m in omega (arith, e))

-- ---- rows that are put

pub ascending_put_rows : {T : Type 0} (id : T → ℕ) (rows xs : List T) → IsAscending id rows → IsAscending id (put_rows id rows xs)
ascending_put_rows id rows [] h = h
ascending_put_rows id rows (x ∷ xs) h = ascending_put_rows id (put_row id rows x) xs (IsAscending-put id rows x h)

pub row_at-put_rows : {T : Type 0} (id : T → ℕ) (rows xs : List T) (k : ℕ) → IsAscending id xs → row_at id (put_rows id rows xs) k ≡ option_or (row_at id xs k) (row_at id rows k)
row_at-put_rows id rows [] k g = refl
row_at-put_rows {T} id rows (x ∷ xs) k g =
    let rest = row_at-put_rows id (put_row id rows x) xs k g.1 in
    let here = row_at-put_row id rows x k in
    elim (cases_Bool (id x == k)) [
      | inl same ↦
          let none : row_at id xs k ≡ None = none_behind id x xs k g.0 (eqb-true (id x) k same) in
          rw same (rest ∙ rw none (here ∙ rw same refl))
      | inr other ↦ rw other (rest ∙ rw (here, other) refl)
    ]

-- ---- rows that are kept

pub row_at-filter : {T : Type 0} (id : T → ℕ) (p : T → Bool) (xs : List T) (k : ℕ) → IsAscending id xs → row_at id (filter p xs) k ≡ kept p (row_at id xs k)
row_at-filter id p [] k h = refl
row_at-filter {T} id p (x ∷ xs) k h =
    let rest = row_at-filter id p xs k h.1 in
    elim (cases_Bool (id x == k)) [
      | inl same ↦ elim (cases_Bool (p x)) [
        | inl passes ↦ rw (same, passes) (rw same refl)
        | inr fails ↦ rw (same, fails) (none_behind id x (filter p xs) k (λ y m. h.0 y (filter_member p xs y m)) (eqb-true (id x) k same))
      ]
      | inr other ↦ elim (cases_Bool (p x)) [
        | inl passes ↦ rw (other, passes) (rw other rest)
        | inr fails ↦ rw (other, fails) rest
      ]
    ]

none_if : {T : Type 0} (b : Bool) (o : Option T) → o ≡ None → o ≡ (if b then o else None)
none_if true o h = refl
none_if false o h = h

-- a filter that looks at ids alone needs no order
pub row_at-filter_ids : {T : Type 0} (id : T → ℕ) (p : ℕ → Bool) (xs : List T) (k : ℕ) → row_at id (filter (λ x. p (id x)) xs) k ≡ (if p k then row_at id xs k else None)
row_at-filter_ids id p [] k = none_if (p k) None refl
row_at-filter_ids {T} id p (x ∷ xs) k =
    let rest = row_at-filter_ids id p xs k in
    elim (cases_Bool (p (id x))) [
      | inl passes ↦ elim (cases_Bool (id x == k)) [
        | inl same ↦ let e : id x ≡ k = eqb-true (id x) k same in let f : p k ≡ true = rw (← e) passes in rw (passes, same, f) refl
        | inr other ↦ rw (passes, other) rest
      ]
      | inr fails ↦ elim (cases_Bool (id x == k)) [
        | inl same ↦ let e : id x ≡ k = eqb-true (id x) k same in let f : p k ≡ false = rw (← e) fails in rw (fails, f) (rest ∙ rw f refl)
        | inr other ↦ rw (fails, other) rest
      ]
    ]

-- an id is among those of the rows that pass
pub any_id : {T : Type 0} (id : T → ℕ) (p : ℕ → Bool) (xs : List T) (k : ℕ) → list_any (λ x. x == k) (map id (filter (λ x. p (id x)) xs)) ≡ (p k && is_some (row_at id xs k))
any_id id p [] k = elim (p k) as (λ b. false ≡ (b && false)) [ true ↦ refl | false ↦ refl ]
any_id {T} id p (x ∷ xs) k =
    let rest = any_id id p xs k in
    elim (cases_Bool (p (id x))) [
      | inl passes ↦ elim (cases_Bool (id x == k)) [
        | inl same ↦ let e : id x ≡ k = eqb-true (id x) k same in let f : p k ≡ true = rw (← e) passes in rw (passes, same, f) refl
        | inr other ↦ rw (passes, other) rest
      ]
      | inr fails ↦ elim (cases_Bool (id x == k)) [
        | inl same ↦ let e : id x ≡ k = eqb-true (id x) k same in let f : p k ≡ false = rw (← e) fails in rw (fails, f) (rest ∙ rw f refl)
        | inr other ↦ rw (fails, other) rest
      ]
    ]

-- ---- rows that are mapped

pub row_at-map : {T U : Type 0} (id : T → ℕ) (id' : U → ℕ) (f : T → U) (same : (x : T) → id' (f x) ≡ id x) (xs : List T) (k : ℕ) → row_at id' (map f xs) k ≡ option_map f (row_at id xs k)
row_at-map id id' f same [] k = refl
row_at-map id id' f same (x ∷ xs) k =
    let rest = row_at-map id id' f same xs k in
    elim (cases_Bool (id x == k)) [
      | inl here ↦ rw (same x, here) refl
      | inr other ↦ rw (same x, other) rest
    ]

-- what comes out came of something
pub filter_map_member : {T U : Type 0} (f : T → Option U) (xs : List T) (u : U) → Contains (filter_map f xs) u → (x : T) × Contains xs x × (f x ≡ Some u)
filter_map_member f [] u m = absurd (no_member u m)
filter_map_member {T} {U} f (x ∷ xs) u m = go (f x) refl (λ r. filter_map_member f xs u r) m
  where
    later : ((z : T) × Contains xs z × (f z ≡ Some u)) → (z : T) × Contains (x ∷ xs) z × (f z ≡ Some u)
    later at = (at.0, rest_member x xs at.0 at.1, at.2)

    go : (o : Option U) → f x ≡ o → (Contains (filter_map f xs) u → (z : T) × Contains xs z × (f z ≡ Some u)) → Contains (cons_option o (filter_map f xs)) u → (z : T) × Contains (x ∷ xs) z × (f z ≡ Some u)
    go None e behind r = later (behind r)
    go (Some v) e behind r = elim (cut_member v (filter_map f xs) u r) [
      | inl is ↦ (x, first_member x xs, e ∙ ap Some (sym is))
      | inr rest ↦ later (behind rest)
    ]

pub ascending_filter_map : {T U : Type 0} (id : T → ℕ) (id' : U → ℕ) (f : T → Option U) (same : (x : T) (u : U) → f x ≡ Some u → id' u ≡ id x) (xs : List T)
    → IsAscending id xs → IsAscending id' (filter_map f xs)
ascending_filter_map id id' f same [] h = tt
ascending_filter_map {T} {U} id id' f same (x ∷ xs) h = go (f x) refl (ascending_filter_map id id' f same xs h.1)
  where
    go : (o : Option U) → f x ≡ o → IsAscending id' (filter_map f xs) → IsAscending id' (cons_option o (filter_map f xs))
    go None e rest = rest
    go (Some u) e rest = (
      (λ v m. let at = filter_map_member f xs v m in
          let less : id x < id at.0 = h.0 at.0 at.1 in
          let first : id' u ≡ id x = same x u e in
          let other : id' v ≡ id at.0 = same at.0 v at.2 in
          omega arith),
      rest,
    )

pub row_at-filter_map : {T U : Type 0} (id : T → ℕ) (id' : U → ℕ) (f : T → Option U) (same : (x : T) (u : U) → f x ≡ Some u → id' u ≡ id x) (xs : List T) (k : ℕ)
    → IsAscending id xs → row_at id' (filter_map f xs) k ≡ option_and_then f (row_at id xs k)
row_at-filter_map id id' f same [] k h = refl
row_at-filter_map {T} {U} id id' f same (x ∷ xs) k h = here (f x) refl ∙ ap at (row_at-filter_map id id' f same xs k h.1) ∙ found
  where
    us : List U
    us = filter_map f xs

    at : Option U → Option U
    at o = if id x == k then f x else o

    none : id x ≡ k → row_at id' us k ≡ None
    none e = row_at_below id' us k (λ v m. let from = filter_map_member f xs v m in
        let less : id x < id from.0 = h.0 from.0 from.1 in
        let other : id' v ≡ id from.0 = same from.0 v from.2 in
        omega (arith, e))

    here : (o : Option U) → f x ≡ o → row_at id' (cons_option o us) k ≡ (if id x == k then o else row_at id' us k)
    here None e = elim (cases_Bool (id x == k)) [
      | inl same_id ↦ rw same_id (none (eqb-true (id x) k same_id))
      | inr other ↦ rw other refl
    ]
    here (Some u) e = let first : id' u ≡ id x = same x u e in rw first refl

    found : at (option_and_then f (row_at id xs k)) ≡ option_and_then f (if id x == k then Some x else row_at id xs k)
    found = elim (cases_Bool (id x == k)) [
      | inl same_id ↦ rw same_id refl
      | inr other ↦ rw other refl
    ]
