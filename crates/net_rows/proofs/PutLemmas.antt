-- What putting and removing a row keeps of one list.
use Rattle.std.proofs.Common.{◌≡◌, ◌<◌, ◌≤◌, ◌+◌, ℕ, suc, List, [], ◌∷◌, length, arith, ◌⊎◌, inl, inr, sym, ◌∙◌, ap, refl, ◌==◌, nat_lt}
use Rattle.std.specs.Prelude.{Contains}
use Rattle.net_rows.specs.Shelf.{put_row, IsAscending, AreBelow, Tells, HasRow}
use Rattle.std.proofs.lemmas.Bool.{cases_Bool}
use Rattle.net_rows.proofs.Members.{no_member, cut_member, first_member, rest_member}
use Rattle.net_rows.proofs.Puttable.{IsOwn}

-- what is put is the row or one that was there
pub put_member : {T : Type 0} (id : T → ℕ) (xs : List T) (x a : T) → Contains (put_row id xs x) a → (a ≡ x) ⊎ Contains xs a
put_member id [] x a h = cut_member x [] a h
put_member {T} id (y ∷ ys) x a h =
    elim (cases_Bool (id y == id x)) [
      | inl same ↦ elim (cut_member x ys a (rw same at h)) [ inl e ↦ inl e | inr r ↦ inr (rest_member y ys a r) ]
      | inr other ↦ elim (cases_Bool (nat_lt (id y) (id x))) [
        | inl before ↦ elim (cut_member y (put_row id ys x) a (rw (other, before) at h)) [
          | inl e ↦ inr (0, omega arith, sym e)
          | inr r ↦ elim (put_member id ys x a r) [ inl e ↦ inl e | inr s ↦ inr (rest_member y ys a s) ]
        ]
        | inr after ↦ cut_member x (y ∷ ys) a (rw (other, after) at h)
      ]
    ]

pub put_there : {T : Type 0} (id : T → ℕ) (xs : List T) (x : T) → Contains (put_row id xs x) x
put_there id [] x = first_member x []
put_there {T} id (y ∷ ys) x =
    elim (cases_Bool (id y == id x)) [
      | inl same ↦ rw same (first_member x ys)
      | inr other ↦ elim (cases_Bool (nat_lt (id y) (id x))) [
        | inl before ↦ rw (other, before) (rest_member y (put_row id ys x) x (put_there id ys x))
        | inr after ↦ rw (other, after) (first_member x (y ∷ ys))
      ]
    ]

pub Tells-put : {T K : Type 0} (id : T → ℕ) (f : T → K) (xs : List T) (x : T) → Tells id f xs → IsOwn id f xs x → Tells id f (put_row id xs x)
Tells-put id f xs x old own a b ina inb e =
    elim (put_member id xs x a ina) [
      | inl ax ↦ elim (put_member id xs x b inb) [
        | inl bx ↦ ap id (ax ∙ sym bx)
        | inr bold ↦ ap id ax ∙ sym (own b bold (sym e ∙ ap f ax))
      ]
      | inr aold ↦ elim (put_member id xs x b inb) [
        | inl bx ↦ own a aold (e ∙ ap f bx) ∙ sym (ap id bx)
        | inr bold ↦ old a b aold bold e
      ]
    ]

pub IsAscending-put : {T : Type 0} (id : T → ℕ) (xs : List T) (x : T) → IsAscending id xs → IsAscending id (put_row id xs x)
IsAscending-put id [] x h = (λ y m. absurd (no_member y m), tt)
IsAscending-put {T} id (y ∷ ys) x h =
    elim (cases_Bool (id y == id x)) [
      | inl same ↦ rw same (λ z m. let e : id y ≡ id x = grind arith in rw (← e) (h.0 z m), h.1)
      | inr other ↦ elim (cases_Bool (nat_lt (id y) (id x))) [
        | inl before ↦
            let lt : id y < id x = grind arith in
            rw (other, before) (
              λ z m. elim (put_member id ys x z m) [ inl e ↦ rw e lt | inr r ↦ h.0 z r ],
              IsAscending-put id ys x h.1,
            )
        | inr after ↦
            let lt : id x < id y = grind arith in
            rw (other, after) (
              λ z m. elim (cut_member y ys z m) [ inl e ↦ rw e lt | inr r ↦ let l : id y < id z = h.0 z r in omega arith ],
              h,
            )
      ]
    ]

pub AreBelow-put : {T : Type 0} (id : T → ℕ) (next next' : ℕ) (xs : List T) (x : T) → AreBelow id next xs → 1 ≤ id x → id x < next' → next ≤ next' → AreBelow id next' (put_row id xs x)
AreBelow-put id next next' xs x old one below up a m =
    elim (put_member id xs x a m) [
      | inl e ↦ rw e (one, below)
      | inr r ↦ ((old a r).0, let l : id a < next = (old a r).1 in omega arith)
    ]

-- a row that is there stays, or the new one has its id
pub HasRow-put : {T : Type 0} (id : T → ℕ) (xs : List T) (x : T) (n : ℕ) → HasRow id xs n → HasRow id (put_row id xs x) n
HasRow-put id [] x n (a, inside, is) = absurd (no_member a inside)
HasRow-put {T} id (y ∷ ys) x n (a, inside, is) =
    elim (cases_Bool (id y == id x)) [
      | inl same ↦ elim (cut_member y ys a inside) [
        | inl e ↦ let here : id x ≡ n = grind (arith, ap id e) in (x, rw same (0, omega arith, refl), here)
        | inr r ↦ (a, rw same (rest_member x ys a r), is)
      ]
      | inr other ↦ elim (cases_Bool (nat_lt (id y) (id x))) [
        | inl before ↦ elim (cut_member y ys a inside) [
          | inl e ↦ (a, rw (other, before) (0, omega arith, sym e), is)
          | inr r ↦ let rest = HasRow-put id ys x n (a, r, is) in (rest.0, rw (other, before) (rest_member y (put_row id ys x) rest.0 rest.1), rest.2)
        ]
        | inr after ↦ (a, rw (other, after) (rest_member x (y ∷ ys) a inside), is)
      ]
    ]

-- at most one row more
pub length-put : {T : Type 0} (id : T → ℕ) (xs : List T) (x : T) → length (put_row id xs x) ≤ length xs + 1
length-put id [] x = omega arith
length-put {T} id (y ∷ ys) x =
    elim (cases_Bool (id y == id x)) [
      | inl same ↦ rw same (omega arith)
      | inr other ↦ elim (cases_Bool (nat_lt (id y) (id x))) [
        | inl before ↦ let rest = length-put id ys x in rw (other, before) (omega arith)
        | inr after ↦ rw (other, after) (omega arith)
      ]
    ]

-- no row more where it replaces one
pub length-replace : {T : Type 0} (id : T → ℕ) (xs : List T) (x : T) → IsAscending id xs → HasRow id xs (id x) → length (put_row id xs x) ≡ length xs
length-replace id [] x h (a, inside, is) = absurd (no_member a inside)
length-replace {T} id (y ∷ ys) x h (a, inside, is) =
    elim (cases_Bool (id y == id x)) [
      | inl same ↦ rw same refl
      | inr other ↦
          let apart : id y ≡ id x → ⊥ = λ e. absurd (grind arith) in
          elim (cases_Bool (nat_lt (id y) (id x))) [
            | inl before ↦ rw (other, before) (elim (cut_member y ys a inside) [
              | inl e ↦ absurd (apart (sym (ap id e) ∙ is))
              | inr r ↦ ap suc (length-replace id ys x h.1 (a, r, is))
            ])
            | inr after ↦ elim (cut_member y ys a inside) [
              | inl e ↦ absurd (apart (sym (ap id e) ∙ is))
              | inr r ↦ let l : id y < id a = h.0 a r in let g : id x ≤ id y = grind arith in absurd (omega arith)
            ]
          ]
    ]

-- with room, or in the place of a row, it stays within the limit
pub count-put : {T : Type 0} (id : T → ℕ) (limit : ℕ) (xs : List T) (x : T) → IsAscending id xs → length xs ≤ limit → (length xs < limit) ⊎ HasRow id xs (id x) → length (put_row id xs x) ≤ limit
count-put {T} id limit xs x h old room =
    elim room [
      | inl more ↦ let grown = length-put id xs x in omega arith
      | inr there ↦ rw (length-replace id xs x h there) old
    ]

-- a rule of single rows holds of all rows where it holds of the new one
pub keeps-put : {T : Type 0} (id : T → ℕ) (P : T → Type 0) (xs : List T) (x : T) → ((a : T) → Contains xs a → P a) → P x → (a : T) → Contains (put_row id xs x) a → P a
keeps-put {T} id P xs x old new a m = elim (put_member id xs x a m) [ inl e ↦ rw e new | inr r ↦ old a r ]
