-- What removing a row keeps of one list.
use Rattle.std.proofs.Common.{◌≡◌, ◌≢◌, ◌<◌, ◌≤◌, ℕ, false, List, [], ◌∷◌, length, arith, inl, inr, sym, ◌∙◌, ap, refl, ◌==◌, nat_lt}
use Rattle.std.specs.Prelude.{Contains}
use Rattle.net_rows.specs.Shelf.{put_row, without, IsAscending, AreBelow, Tells, HasRow}
use Rattle.std.proofs.lemmas.Bool.{cases_Bool}
use Rattle.net_rows.proofs.Members.{no_member, cut_member, first_member, rest_member}

-- what is left was there, and has another id
pub without_member : {T : Type 0} (id : T → ℕ) (xs : List T) (k : ℕ) (a : T) → Contains (without id xs k) a → Contains xs a × (id a ≢ k)
without_member id [] k a m = absurd (no_member a m)
without_member {T} id (y ∷ ys) k a m =
    elim (cases_Bool (id y == k)) [
      | inl goes ↦ let rest = without_member id ys k a (rw goes at m) in (rest_member y ys a rest.0, rest.1)
      | inr stays ↦ elim (cut_member y (without id ys k) a (rw stays at m)) [
        | inl e ↦ let other : id y ≢ k = λ is. grind arith in ((0, omega arith, sym e), λ is. other (ap id (sym e) ∙ is))
        | inr r ↦ let rest = without_member id ys k a r in (rest_member y ys a rest.0, rest.1)
      ]
    ]

-- a row of another id stays
pub without_there : {T : Type 0} (id : T → ℕ) (xs : List T) (k : ℕ) (a : T) → Contains xs a → id a ≢ k → Contains (without id xs k) a
without_there id [] k a m other = absurd (no_member a m)
without_there {T} id (y ∷ ys) k a m other =
    elim (cases_Bool (id y == k)) [
      | inl goes ↦ rw goes (elim (cut_member y ys a m) [
        | inl e ↦ let same : id y ≡ k = grind arith in absurd (other (ap id e ∙ same))
        | inr r ↦ without_there id ys k a r other
      ])
      | inr stays ↦ rw stays (elim (cut_member y ys a m) [
        | inl e ↦ rw e (first_member y (without id ys k))
        | inr r ↦ rest_member y (without id ys k) a (without_there id ys k a r other)
      ])
    ]

pub Tells-without : {T K : Type 0} (id : T → ℕ) (f : T → K) (xs : List T) (k : ℕ) → Tells id f xs → Tells id f (without id xs k)
Tells-without id f xs k old a b ina inb e = old a b (without_member id xs k a ina).0 (without_member id xs k b inb).0 e

pub AreBelow-without : {T : Type 0} (id : T → ℕ) (next : ℕ) (xs : List T) (k : ℕ) → AreBelow id next xs → AreBelow id next (without id xs k)
AreBelow-without id next xs k old a m = old a (without_member id xs k a m).0

pub keeps-without : {T : Type 0} (id : T → ℕ) (P : T → Type 0) (xs : List T) (k : ℕ) → ((a : T) → Contains xs a → P a) → (a : T) → Contains (without id xs k) a → P a
keeps-without id P xs k old a m = old a (without_member id xs k a m).0

pub IsAscending-without : {T : Type 0} (id : T → ℕ) (xs : List T) (k : ℕ) → IsAscending id xs → IsAscending id (without id xs k)
IsAscending-without id [] k h = tt
IsAscending-without {T} id (y ∷ ys) k h =
    elim (cases_Bool (id y == k)) [
      | inl goes ↦ rw goes (IsAscending-without id ys k h.1)
      | inr stays ↦ rw stays (λ z m. h.0 z (without_member id ys k z m).0, IsAscending-without id ys k h.1)
    ]

pub length-without : {T : Type 0} (id : T → ℕ) (xs : List T) (k : ℕ) → length (without id xs k) ≤ length xs
length-without id [] k = omega arith
length-without {T} id (y ∷ ys) k =
    let rest = length-without id ys k in
    elim (cases_Bool (id y == k)) [ inl goes ↦ rw goes (omega arith) | inr stays ↦ rw stays (omega arith) ]

pub count-without : {T : Type 0} (id : T → ℕ) (limit : ℕ) (xs : List T) (k : ℕ) → length xs ≤ limit → length (without id xs k) ≤ limit
count-without id limit xs k h = let less = length-without id xs k in omega arith

pub HasRow-without : {T : Type 0} (id : T → ℕ) (xs : List T) (k n : ℕ) → HasRow id xs n → n ≢ k → HasRow id (without id xs k) n
HasRow-without id xs k n (a, inside, is) other = (a, without_there id xs k a inside (λ e. other (sym is ∙ e)), is)

-- of ascending rows that all have greater ids none goes
without_none : {T : Type 0} (id : T → ℕ) (xs : List T) (k : ℕ) → ((y : T) → Contains xs y → k < id y) → without id xs k ≡ xs
without_none id [] k h = refl
without_none {T} id (y ∷ ys) k h =
    let later : k < id y = h y (first_member y ys) in
    let stays : (id y == k) ≡ false = grind arith in
    rw stays (ap (λ zs. y ∷ zs) (without_none id ys k (λ z m. h z (rest_member y ys z m))))

put_first : {T : Type 0} (id : T → ℕ) (xs : List T) (x : T) → ((y : T) → Contains xs y → id x < id y) → put_row id xs x ≡ x ∷ xs
put_first id [] x h = refl
put_first {T} id (y ∷ ys) x h =
    let later : id x < id y = h y (first_member y ys) in
    let other : (id y == id x) ≡ false = grind arith in
    let after : nat_lt (id y) (id x) ≡ false = grind arith in
    rw (other, after) refl

-- A put is insertion after removal, where the rows rise by id.
pub put_row_is_insertion : {T : Type 0} (id : T → ℕ) (xs : List T) (x : T) → IsAscending id xs → put_row id xs x ≡ put_row id (without id xs (id x)) x
put_row_is_insertion id [] x h = refl
put_row_is_insertion {T} id (y ∷ ys) x h =
    elim (cases_Bool (id y == id x)) [
      | inl same ↦
          let is : id y ≡ id x = grind arith in
          let above : (z : T) → Contains ys z → id x < id z = λ z m. rw (← is) (h.0 z m) in
          rw same (sym (put_first id ys x above) ∙ ap (λ zs. put_row id zs x) (sym (without_none id ys (id x) above)))
      | inr other ↦ elim (cases_Bool (nat_lt (id y) (id x))) [
        | inl before ↦ simp (other, before) (ap (λ zs. y ∷ zs) (put_row_is_insertion id ys x h.1))
        | inr after ↦
            let later : id x < id y = grind arith in
            let above : (z : T) → Contains ys z → id x < id z = λ z m. let l : id y < id z = h.0 z m in omega arith in
            simp (other, after, without_none id ys (id x) above)
      ]
    ]
