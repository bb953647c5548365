-- Of more values that differ than a list has, one isn't in the list.
use Rattle.std.proofs.Common.{◌≡◌, ◌<◌, ◌≤◌, ◌+◌, ℕ, zero, suc, true, false, List, [], ◌∷◌, length, inl, inr, arith, sym, ap, ◌∙◌, refl}
use Rattle.std.specs.Cmp.{IsEquivalence}
use Rattle.std.specs.List.{IsDistinct, AllByRecursion}
use Rattle.std.specs.Set.{is_member}
use Rattle.std.specs.Str.{bytes_eq}
use Rattle.std.proofs.lemmas.Map.Made.{length-le_from_is_member}
use Rattle.std.proofs.lemmas.Bool.{cases_Bool}
use Rattle.tail_base.proofs.Bools.{bytes_eq-from, bytes_eq-true}

-- the values of so many numbers, from the first on
abbrev pub values : (ℕ → List ℕ) → ℕ → ℕ → List (List ℕ)
values f zero n = []
values f (suc more) n = f n ∷ values f more (n + 1)

length-values : (f : ℕ → List ℕ) (more n : ℕ) → length (values f more n) ≡ more
length-values f zero n = refl
length-values f (suc more) n = ap suc (length-values f more (n + 1))

pub bytes_eq_equiv : IsEquivalence bytes_eq
bytes_eq_equiv = record {
  refl = λ x. bytes_eq-from x x refl;
  symm = λ x y. elim (cases_Bool (bytes_eq x y)) [
    | inl e ↦ e ∙ sym (bytes_eq-from y x (sym (bytes_eq-true x y e)))
    | inr e ↦ elim (cases_Bool (bytes_eq y x)) [
      | inl f ↦ let bad : true ≡ false = sym (bytes_eq-from x y (sym (bytes_eq-true y x f))) ∙ e in absurd (cc)
      | inr f ↦ e ∙ sym f
    ]
  ];
  congr = λ x y z e. ap (λ k. bytes_eq k z) (bytes_eq-true x y e);
}

-- The numbers give different values.
pub record AreApart (f : ℕ → List ℕ) (end : ℕ) : Type 0 where
  pub apart : (n m : ℕ) → n < end → m < end → f n ≡ f m → n ≡ m

differs_from_later : (f : ℕ → List ℕ) (end : ℕ) → AreApart f end → (n : ℕ) → n < end → (more m : ℕ) → n < m → m + more ≤ end
    → AllByRecursion (λ y. bytes_eq (f n) y ≡ false) (values f more m)
differs_from_later f end a n small zero m lt fits = tt
differs_from_later f end a n small (suc more) m lt fits = (
  elim (cases_Bool (bytes_eq (f n) (f m))) [
    | inl e ↦
        let same : n ≡ m = a.apart n m small (omega arith) (bytes_eq-true (f n) (f m) e) in absurd (omega arith)
    | inr e ↦ e
  ],
  differs_from_later f end a n small more (m + 1) (omega arith) (omega arith),
)

values_distinct : (f : ℕ → List ℕ) (end : ℕ) → AreApart f end → (more n : ℕ) → n + more ≤ end → IsDistinct bytes_eq (values f more n)
unfolding IsDistinct
values_distinct f end a zero n fits = tt
values_distinct f end a (suc more) n fits = (
  differs_from_later f end a n (omega arith) more (n + 1) (omega arith) (omega arith),
  values_distinct f end a more (n + 1) (omega arith),
)

-- each value is in the list, if each number's is
values_in : (f : ℕ → List ℕ) (held : List (List ℕ)) (more n : ℕ)
    → ((k : ℕ) → n ≤ k → k < n + more → is_member bytes_eq held (f k) ≡ true)
    → (q : List ℕ) → is_member bytes_eq (values f more n) q ≡ true → is_member bytes_eq held q ≡ true
values_in f held zero n all q h = absurd (cc)
values_in f held (suc more) n all q h =
    elim (cases_Bool (bytes_eq q (f n))) [
      | inl e ↦ let same : q ≡ f n = bytes_eq-true q (f n) e in rw same (all n (omega arith) (omega arith))
      | inr e ↦ values_in f held more (n + 1) (λ k low high. all k (omega arith) (omega arith)) q (rw e at h)
    ]

pub pigeonhole : (f : ℕ → List ℕ) (held : List (List ℕ)) (end n : ℕ) → AreApart f end → n + (length held + 1) ≤ end
    → ((k : ℕ) → n ≤ k → k < n + (length held + 1) → is_member bytes_eq held (f k) ≡ true) → ⊥
pigeonhole f held end n a fits all =
    let most : length (values f (length held + 1) n) ≤ length held =
    length-le_from_is_member bytes_eq_equiv (values f (length held + 1) n) held (values_distinct f end a (length held + 1) n fits) (values_in f held (length held + 1) n all) in
    omega (arith, length-values f (length held + 1) n)
