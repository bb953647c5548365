-- Lists that are gone through.
use Rattle.std.proofs.Common.{◌≡◌, ◌<◌, ◌≤◌, ◌+◌, ℕ, List, [], ◌∷◌, ◌++◌, length, add-one, drop, drop-cons, get_or, take, append_assoc, arith, refl, ap, sym, ◌∙◌, inl, inr, subst, if◌then◌else◌, Bool}
use Rattle.std.specs.Prelude.{Contains, filter, map}
use Rattle.std.proofs.lemmas.Bool.{cases_Bool}
use Rattle.std.proofs.Math.Seq.{take-length}
use Rattle.std.proofs.lemmas.List.{take_more}
use Rattle.net_rows.proofs.Members.{cut_last}

-- what is known of the first elements and of the next is told of one element more
pub told_more : {A : Type 0} (P : A → Type 0) (xs : List A) (i : ℕ) (x : A) → i < length xs → x ≡ get_or xs i x → ((a : A) → Contains (take i xs) a → P a) → P x
    → (a : A) → Contains (take (i + 1) xs) a → P a
told_more {A} P xs i x lt is told here a m =
    let step : take (i + 1) xs ≡ take i xs ++ get_or xs i x ∷ [] = take_more xs i x lt in
    let whole : take (i + 1) xs ≡ take i xs ++ x ∷ [] = step ∙ ap (λ (z : A). take i xs ++ z ∷ []) (sym is) in
    elim (cut_last (take i xs) x a (subst (λ (zs : List A). Contains zs a) whole m)) [
      | inl e ↦ subst P (sym e) here
      | inr before ↦ told a before
    ]

-- the next element is taken where it passes
pub taken_more : {A B : Type 0} (test : A → Bool) (f : A → B) (out : List B) (x : A) (xs : List A)
    → (out ++ (if test x then f x ∷ [] else [])) ++ map f (filter test xs) ≡ out ++ map f (filter test (x ∷ xs))
taken_more test f out x xs =
    elim (cases_Bool (test x)) [
      | inl passes ↦ rw passes (append_assoc out (f x ∷ []) (map f (filter test xs)))
      | inr fails ↦ rw fails (append_assoc out [] (map f (filter test xs)))
    ]

-- one more of a list that is filtered and mapped
pub gathered_more : {A B : Type 0} (test : A → Bool) (f : A → B) (xs : List A) (i : ℕ) (out new : List B) (x : A) (all : List B) → i < length xs → x ≡ get_or xs i x
    → out ++ map f (filter test (drop i xs)) ≡ all → new ≡ out ++ (if test x then f x ∷ [] else []) → new ++ map f (filter test (drop (i + 1) xs)) ≡ all
gathered_more {A} {B} test f xs i out new x all lt is told put =
    let front : drop i xs ≡ get_or xs i x ∷ drop (i + 1) xs = rw (add-one, drop-cons xs i x) refl in
    let cut : drop i xs ≡ x ∷ drop (i + 1) xs = front ∙ ap (λ (z : A). z ∷ drop (i + 1) xs) (sym is) in
    let step = taken_more test f out x (drop (i + 1) xs) in
    let whole : out ++ map f (filter test (x ∷ drop (i + 1) xs)) ≡ all = ap (λ (zs : List A). out ++ map f (filter test zs)) (sym cut) ∙ told in
    ap (λ (zs : List B). zs ++ map f (filter test (drop (i + 1) xs))) put ∙ (step ∙ whole)

-- what is known of the elements up to the end is told of all
pub told_all : {A : Type 0} (P : A → Type 0) (xs : List A) (i : ℕ) → i ≤ length xs → length xs ≤ i → ((a : A) → Contains (take i xs) a → P a) → (a : A) → Contains xs a → P a
told_all {A} P xs i below past told a m =
    let end : i ≡ length xs = omega arith in
    let whole : take i xs ≡ xs = ap (λ (n : ℕ). take n xs) end ∙ take-length xs in
    told a (subst (λ (zs : List A). Contains zs a) (sym whole) m)
