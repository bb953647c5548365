-- Sums over views, and tests as numbers.
use Rattle.std.proofs.Common.{◌≡◌, ◌≢◌, ℕ, zero, suc, ◌+◌, ◌<◌, ◌≤◌, List, [], ◌∷◌, ◌++◌, length, set, refl, sym, ap, arith}
use mathlib.Core.Option.{some, some-injective, some-ne-none}
use lib.ListN.{get_elem?}
use Rattle.std.proofs.lemmas.Bool.Decides.{nat_tests}
use Rattle.session_hub.specs.Lines.{equals, times}
use Rattle.session_hub.specs.Rule.{below, total}

module _ {V : Type 0} (f : V → ℕ) where
  pub total_set : (vs : List V) (k : ℕ) (v w : V) → get_elem? vs k ≡ some v → total f (set vs k w) + f v ≡ total f vs + f w
  total_set [] k v w e = absurd (some-ne-none v (sym e))
  total_set (x ∷ xs) zero v w e = let same : f x ≡ f v = ap f (some-injective x v e) in omega arith
  total_set (x ∷ xs) (suc k) v w e = let h = total_set xs k v w e in omega arith

  pub total_one : (vs : List V) (k : ℕ) (v : V) → get_elem? vs k ≡ some v → f v ≤ total f vs
  total_one [] k v e = absurd (some-ne-none v (sym e))
  total_one (x ∷ xs) zero v e = let same : f x ≡ f v = ap f (some-injective x v e) in omega arith
  total_one (x ∷ xs) (suc k) v e = let h = total_one xs k v e in omega arith

  pub total_two : (vs : List V) (j k : ℕ) (u v : V) → j ≢ k → get_elem? vs j ≡ some u → get_elem? vs k ≡ some v → f u + f v ≤ total f vs
  total_two [] j k u v n d e = absurd (some-ne-none v (sym e))
  total_two (x ∷ xs) zero zero u v n d e = absurd (n refl)
  total_two (x ∷ xs) zero (suc k) u v n d e = let same : f x ≡ f u = ap f (some-injective x u d) in let h = total_one xs k v e in omega arith
  total_two (x ∷ xs) (suc j) zero u v n d e = let same : f x ≡ f v = ap f (some-injective x v e) in let h = total_one xs j u d in omega arith
  total_two (x ∷ xs) (suc j) (suc k) u v n d e = let h = total_two xs j k u v (λ s. n (ap suc s)) d e in omega arith

  pub total_snoc : (vs : List V) (v : V) → total f (vs ++ v ∷ []) ≡ total f vs + f v
  total_snoc [] v = omega arith
  total_snoc (x ∷ xs) v = let h = total_snoc xs v in omega arith

  pub total_none : (vs : List V) → ((j : ℕ) (u : V) → get_elem? vs j ≡ some u → f u ≡ 0) → total f vs ≡ 0
  total_none [] h = refl
  total_none (x ∷ xs) h = let a : f x ≡ 0 = h 0 x refl in let b = total_none xs (λ j u e. h (suc j) u e) in omega arith

  -- where all others have no_portion, the one has the total
  pub total_only : (vs : List V) (k : ℕ) (v : V) → get_elem? vs k ≡ some v → ((j : ℕ) (u : V) → j ≢ k → get_elem? vs j ≡ some u → f u ≡ 0) → total f vs ≡ f v
  total_only [] k v e h = absurd (some-ne-none v (sym e))
  total_only (x ∷ xs) zero v e h = let same : f x ≡ f v = ap f (some-injective x v e) in let b = total_none xs (λ j u d. h (suc j) u (λ s. omega arith) d) in omega arith
  total_only (x ∷ xs) (suc k) v e h = let a : f x ≡ 0 = h 0 x (λ s. omega arith) refl in let b = total_only xs k v e (λ j u n d. h (suc j) u (λ s. n (omega arith)) d) in omega arith

pub times-append : (n : ℕ) (xs ys : List ℕ) → times n (xs ++ ys) ≡ times n xs + times n ys
times-append n [] ys = omega arith
times-append n (x ∷ xs) ys = let h = times-append n xs ys in omega arith

pub times_some : (n : ℕ) (xs : List ℕ) → 0 < times n xs → 0 < length xs
times_some n [] p = absurd (omega arith)
times_some n (x ∷ xs) p = omega arith

pub same_here : (n : ℕ) → equals n n ≡ 1
same_here n = grind (arith, nat_tests)

pub same_else : (n x : ℕ) → n ≢ x → equals n x ≡ 0
same_else n x p = grind (arith, nat_tests)

pub below_yes : (t n : ℕ) → t < n → below t n ≡ 1
below_yes t n p = grind (arith, nat_tests)

pub below_no : (t n : ℕ) → n ≤ t → below t n ≡ 0
below_no t n p = grind (arith, nat_tests)

pub below_one : (t n : ℕ) → below t n ≤ 1
below_one t n = grind (arith, nat_tests)

pub below_more : (t n : ℕ) → 0 < below t n → t < n
below_more t n p = grind (arith, nat_tests)

pub below_suc : (t n : ℕ) → below t (n + 1) ≡ below t n + equals t n
below_suc t n = grind (arith, nat_tests)

pub below_over : (t n : ℕ) → below t n ≡ 0 → n ≤ t
below_over t n p = grind (arith, nat_tests)
