-- Rows by ascending id are a finite map.
use Rattle.std.proofs.Common.{◌≡◌, ◌<◌, ℕ, true, false, List, [], ◌∷◌, arith, inl, inr, sym, ◌∙◌, ap, refl, ◌==◌, nat_lt}
use Rattle.std.specs.Prelude.{Contains, Some, None}
use Rattle.net_rows.specs.Shelf.{row_at, IsAscending}
use Rattle.std.proofs.lemmas.Bool.{cases_Bool}
use Rattle.net_rows.proofs.Members.{no_member, cut_member, first_member, find_nothing}

-- below the least id there is no row
pub row_at_below : {T : Type 0} (id : T → ℕ) (xs : List T) (k : ℕ) → ((y : T) → Contains xs y → k < id y) → row_at id xs k ≡ None
row_at_below id xs k h = find_nothing (λ x. id x == k) xs (λ a m. let l : k < id a = h a m in grind arith)

-- what stands there is found
pub row_at_is : {T : Type 0} (id : T → ℕ) (xs : List T) (a : T) → IsAscending id xs → Contains xs a → row_at id xs (id a) ≡ Some a
row_at_is id [] a h m = absurd (no_member a m)
row_at_is {T} id (y ∷ ys) a h m =
    elim (cut_member y ys a m) [
      | inl e ↦ let same : (id y == id a) ≡ true = grind (arith, ap id e) in rw same (ap Some (sym e))
      | inr r ↦ let l : id y < id a = h.0 a r in let other : (id y == id a) ≡ false = grind arith in rw other (row_at_is id ys a h.1 r)
    ]

-- a rising list's first row is below the rest
above_rest : {T : Type 0} (id : T → ℕ) (x : T) (xs : List T) (k : ℕ) → IsAscending id (x ∷ xs) → k < id x → (z : T) → Contains (x ∷ xs) z → k < id z
above_rest id x xs k p lt z m = elim (cut_member x xs z m) [ inl e ↦ rw e lt | inr r ↦ let l : id x < id z = p.0 z r in omega arith ]

-- equal first rows, and the same row at each id, leave the same row at each id of the rest
same_rest : {T : Type 0} (id : T → ℕ) (x : T) (xs ys : List T) → IsAscending id (x ∷ xs) → IsAscending id (x ∷ ys)
    → ((k : ℕ) → row_at id (x ∷ xs) k ≡ row_at id (x ∷ ys) k) → (k : ℕ) → row_at id xs k ≡ row_at id ys k
same_rest {T} id x xs ys p q h k =
    elim (cases_Bool (id x == k)) [
      | inl here ↦
          let is : id x ≡ k = grind arith in
          row_at_below id xs k (λ z m. rw (← is) (p.0 z m)) ∙ sym (row_at_below id ys k (λ z m. rw (← is) (q.0 z m)))
      | inr other ↦ rw other at (h k)
    ]

-- two rising lists with the same row at each id are equal
pub same_rows : {T : Type 0} (id : T → ℕ) (xs ys : List T) → IsAscending id xs → IsAscending id ys → ((k : ℕ) → row_at id xs k ≡ row_at id ys k) → xs ≡ ys
same_rows id [] [] p q h = refl
same_rows {T} id [] (y ∷ ys) p q h =
    let bad : None ≡ Some y = h (id y) ∙ row_at_is id (y ∷ ys) y q (first_member y ys) in absurd (cc)
same_rows {T} id (x ∷ xs) [] p q h =
    let bad : Some x ≡ None = sym (row_at_is id (x ∷ xs) x p (first_member x xs)) ∙ h (id x) in absurd (cc)
same_rows {T} id (x ∷ xs) (y ∷ ys) p q h =
    let first : row_at id (x ∷ xs) (id x) ≡ Some x = row_at_is id (x ∷ xs) x p (first_member x xs) in
    elim (cases_Bool (id x == id y)) [
      | inl here ↦
          let is : id x ≡ id y = grind arith in
          let second : row_at id (y ∷ ys) (id y) ≡ Some y = row_at_is id (y ∷ ys) y q (first_member y ys) in
          let both : Some x ≡ Some y = sym first ∙ h (id x) ∙ ap (λ k. row_at id (y ∷ ys) k) is ∙ second in
          let e : x ≡ y = cc in
          let q' : IsAscending id (x ∷ ys) = rw e q in
          let h' = rw (← e) at h in
          ap (λ z. z ∷ xs) e ∙ ap (λ zs. y ∷ zs) (same_rows id xs ys p.1 q.1 (same_rest id x xs ys p q' h'))
      | inr apart ↦ elim (cases_Bool (nat_lt (id x) (id y))) [
        | inl less ↦
            let lt : id x < id y = grind arith in
            let none = row_at_below id (y ∷ ys) (id x) (above_rest id y ys (id x) q lt) in
            let bad : Some x ≡ None = sym first ∙ h (id x) ∙ none in absurd (cc)
        | inr more ↦
            let lt : id y < id x = grind arith in
            let none = row_at_below id (x ∷ xs) (id y) (above_rest id x xs (id y) p lt) in
            let second : row_at id (y ∷ ys) (id y) ≡ Some y = row_at_is id (y ∷ ys) y q (first_member y ys) in
            let bad : None ≡ Some y = sym none ∙ h (id y) ∙ second in absurd (cc)
      ]
    ]
