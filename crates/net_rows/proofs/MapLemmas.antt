-- The row at an id after a put, and after a removal.
use Rattle.std.proofs.Common.{◌≡◌, ◌<◌, ℕ, Bool, true, false, List, [], ◌∷◌, arith, refl, inl, inr, sym, ◌∙◌, ap, ◌==◌, nat_lt, cond, Option}
use Rattle.std.specs.Prelude.{Some, None}
use Rattle.std.proofs.lemmas.Bool.{cases_Bool}
use Rattle.net_rows.specs.Shelf.{put_row, row_at, without}

-- ids that differ aren't both the one that is looked for
one_of : (a b k : ℕ) → (a == b) ≡ false → (a == k) ≡ true → (b == k) ≡ false
one_of a b k h e = grind arith

same_as : (a b k : ℕ) → (a == b) ≡ true → (a == k) ≡ (b == k)
same_as a b k h = let e : a ≡ b = grind arith in rw e refl

-- the row of an id, in front of two others, of which it may be the second
apart : {T : Type 0} (a b k : ℕ) (x y : T) (rest : Option T) → (a == b) ≡ false
    → cond (a == k) (Some x) (cond (b == k) (Some y) rest) ≡ cond (b == k) (Some y) (cond (a == k) (Some x) rest)
apart a b k x y rest h =
    elim (cases_Bool (a == k)) [
      | inl here ↦ rw (here, one_of a b k h here) refl
      | inr other ↦ rw other refl
    ]

pub row_at-put_row : {T : Type 0} (id : T → ℕ) (xs : List T) (x : T) (k : ℕ) → row_at id (put_row id xs x) k ≡ cond (id x == k) (Some x) (row_at id xs k)
row_at-put_row id [] x k = refl
row_at-put_row {T} id (y ∷ ys) x k =
    elim (cases_Bool (id y == id x)) [
      | inl same ↦ rw (same, same_as (id y) (id x) k same) (twice (id x == k) (row_at id ys k))
      | inr other ↦ elim (cases_Bool (nat_lt (id y) (id x))) [
        | inl before ↦ rw (other, before, row_at-put_row id ys x k) (apart (id y) (id x) k y x (row_at id ys k) other)
        | inr after ↦ rw (other, after) refl
      ]
    ]
  where
    twice : (b : Bool) (rest : Option T) → cond b (Some x) rest ≡ cond b (Some x) (cond b (Some y) rest)
    twice true rest = refl
    twice false rest = refl

pub row_at-without : {T : Type 0} (id : T → ℕ) (xs : List T) (gone k : ℕ) → row_at id (without id xs gone) k ≡ cond (gone == k) None (row_at id xs k)
row_at-without id [] gone k = elim (cases_Bool (gone == k)) [ inl here ↦ rw here refl | inr other ↦ rw other refl ]
row_at-without {T} id (y ∷ ys) gone k =
    elim (cases_Bool (id y == gone)) [
      | inl same ↦ rw (same, row_at-without id ys gone k, same_as (id y) gone k same) (twice (gone == k) (row_at id ys k))
      | inr other ↦ rw (other, row_at-without id ys gone k) (moved (row_at id ys k) other)
    ]
  where
    twice : (b : Bool) (rest : Option T) → cond b None rest ≡ cond b None (cond b (Some y) rest)
    twice true rest = refl
    twice false rest = refl

    moved : (rest : Option T) → (id y == gone) ≡ false → cond (id y == k) (Some y) (cond (gone == k) None rest) ≡ cond (gone == k) None (cond (id y == k) (Some y) rest)
    moved rest h = elim (cases_Bool (id y == k)) [
      | inl here ↦ rw (here, one_of (id y) gone k h here) refl
      | inr other ↦ rw other refl
    ]
