-- Where `::` stands in texts that are joined by colons.
use Rattle.std.proofs.Common.{◌≡◌, ◌≤◌, ◌+◌, ◌⊎◌, ℕ, suc, Bool, true, false, not, ◌&&◌, List, [], ◌∷◌, ◌++◌, length, take, drop, eqb, cond, Some, None, arith, refl, sym, ap, ◌∙◌, inl, inr}
use Rattle.std.specs.Prelude.{nat_eq, codes}
use Rattle.std.specs.List.{starts_with, list_all, join_with_byte}
use Rattle.std.specs.Option.{option_map}
use Rattle.std.proofs.lemmas.Bool.{and_parts, and_from, cond-false}
use Rattle.std.proofs.lemmas.Bool.Decides.{nat_tests, Decides-eqb}
use Rattle.std.proofs.lemmas.Slice.Eq.{starts_is}
use Rattle.net_addr.specs.GroupReads.{gap}
use Rattle.net_addr.proofs.PartLemmas.{map_some}
use Rattle.net_addr.proofs.SplitLemmas.{is_other}

-- no `::` stands in the text, and no colon at its end
abbrev pub tidy : List ℕ → Bool
tidy [] = true
tidy (b ∷ []) = is_other 58 b
tidy (b ∷ c ∷ bs) = not (eqb b 58 && eqb c 58) && tidy (c ∷ bs)

one_other : (b : ℕ) (bs : List ℕ) → is_other 58 b ≡ true → starts_with nat_eq (b ∷ bs) (codes "::") ≡ false
one_other b [] h = grind (arith, nat_tests)
one_other b (c ∷ bs) h = grind (arith, nat_tests)

two_other : (b c : ℕ) (bs : List ℕ) → not (eqb b 58 && eqb c 58) ≡ true → starts_with nat_eq (b ∷ c ∷ bs) (codes "::") ≡ false
two_other b c bs h = grind (arith, nat_tests)

-- one byte before the gap
step : (b : ℕ) (bs : List ℕ) (n : ℕ) → starts_with nat_eq (b ∷ bs) (codes "::") ≡ false → gap bs ≡ Some n → gap (b ∷ bs) ≡ Some (suc n)
step b bs n h more =
    let same : n + 1 ≡ suc n = omega arith in
    cond-false (starts_with nat_eq (b ∷ bs) (codes "::")) (Some 0) (option_map (λ i. i + 1) (gap bs)) h
    ∙ ap (option_map (λ i. i + 1)) more ∙ ap Some same

step_none : (b : ℕ) (bs : List ℕ) → starts_with nat_eq (b ∷ bs) (codes "::") ≡ false → gap bs ≡ None → gap (b ∷ bs) ≡ None
step_none b bs h none =
    cond-false (starts_with nat_eq (b ∷ bs) (codes "::")) (Some 0) (option_map (λ i. i + 1) (gap bs)) h ∙ ap (option_map (λ i. i + 1)) none

-- the first `::` stands behind a tidy text
pub gap_after : (xs ys : List ℕ) → tidy xs ≡ true → gap (xs ++ 58 ∷ 58 ∷ ys) ≡ Some (length xs)
gap_after [] ys h = refl
gap_after (b ∷ []) ys h = step b (58 ∷ 58 ∷ ys) 0 (one_other b (58 ∷ 58 ∷ ys) h) refl
gap_after (b ∷ c ∷ bs) ys h =
    let parts = and_parts (not (eqb b 58 && eqb c 58)) (tidy (c ∷ bs)) h in
    step b (c ∷ bs ++ 58 ∷ 58 ∷ ys) (length (c ∷ bs)) (two_other b c (bs ++ 58 ∷ 58 ∷ ys) parts.0) (gap_after (c ∷ bs) ys parts.1)

-- a tidy text has none
pub gap_none : (xs : List ℕ) → tidy xs ≡ true → gap xs ≡ None
gap_none [] h = refl
gap_none (b ∷ []) h = step_none b [] (one_other b [] h) refl
gap_none (b ∷ c ∷ bs) h =
    let parts = and_parts (not (eqb b 58 && eqb c 58)) (tidy (c ∷ bs)) h in
    step_none b (c ∷ bs) (two_other b c bs parts.0) (gap_none (c ∷ bs) parts.1)

-- the text is not empty, and begins with no colon
abbrev pub begins_other : List ℕ → Bool
begins_other [] = false
begins_other (b ∷ bs) = is_other 58 b

pair_other : (b c : ℕ) → is_other 58 b ≡ true → not (eqb b 58 && eqb c 58) ≡ true
pair_other b c h = grind (arith, nat_tests)

second_other : (b c : ℕ) → is_other 58 c ≡ true → not (eqb b 58 && eqb c 58) ≡ true
second_other b c h = grind (arith, nat_tests)

tidy_bytes : (bs : List ℕ) → list_all (is_other 58) bs ≡ true → tidy bs ≡ true
tidy_bytes [] h = refl
tidy_bytes (b ∷ []) h = (and_parts _ _ h).0
tidy_bytes (b ∷ c ∷ bs) h =
    let parts = and_parts (is_other 58 b) (list_all (is_other 58) (c ∷ bs)) h in
    and_from _ _ (pair_other b c parts.0) (tidy_bytes (c ∷ bs) parts.1)

tidy_colon : (rest : List ℕ) → begins_other rest ≡ true → tidy rest ≡ true → tidy (58 ∷ rest) ≡ true
tidy_colon [] h t = absurd (cc (h))
tidy_colon (b ∷ bs) h t = and_from _ _ (second_other 58 b h) t

tidy_append : (bs rest : List ℕ) → list_all (is_other 58) bs ≡ true → begins_other rest ≡ true → tidy rest ≡ true → tidy (bs ++ 58 ∷ rest) ≡ true
tidy_append [] rest all h t = tidy_colon rest h t
tidy_append (b ∷ []) rest all h t = and_from _ _ (pair_other b 58 (and_parts (is_other 58 b) true all).0) (tidy_colon rest h t)
tidy_append (b ∷ c ∷ bs) rest all h t =
    let parts = and_parts (is_other 58 b) (list_all (is_other 58) (c ∷ bs)) all in
    and_from _ _ (pair_other b c parts.0) (tidy_append (c ∷ bs) rest parts.1 h t)

-- texts that are not empty and have no colon
abbrev pub AllParts : List (List ℕ) → Type 0
AllParts [] = Unit {0}
AllParts (bs ∷ more) = (1 ≤ length bs) × (list_all (is_other 58) bs ≡ true) × AllParts more

begins_part : (bs rest : List ℕ) → 1 ≤ length bs → list_all (is_other 58) bs ≡ true → begins_other (bs ++ rest) ≡ true
begins_part [] rest some all = absurd (omega arith)
begins_part (b ∷ bs) rest some all = (and_parts (is_other 58 b) (list_all (is_other 58) bs) all).0

begins_alone : (bs : List ℕ) → 1 ≤ length bs → list_all (is_other 58) bs ≡ true → begins_other bs ≡ true
begins_alone [] some all = absurd (omega arith)
begins_alone (b ∷ bs) some all = (and_parts (is_other 58 b) (list_all (is_other 58) bs) all).0

pub begins_joined : (bs : List ℕ) (more : List (List ℕ)) → 1 ≤ length bs → list_all (is_other 58) bs ≡ true → begins_other (join_with_byte 58 (bs ∷ more)) ≡ true
begins_joined bs [] some all = begins_alone bs some all
begins_joined bs (next ∷ more) some all = begins_part bs (58 ∷ join_with_byte 58 (next ∷ more)) some all

pub tidy_joined : (texts : List (List ℕ)) → AllParts texts → tidy (join_with_byte 58 texts) ≡ true
tidy_joined [] h = refl
tidy_joined (bs ∷ []) h = tidy_bytes bs h.1
tidy_joined (bs ∷ next ∷ more) h =
    tidy_append bs (join_with_byte 58 (next ∷ more)) h.1 (begins_joined next more h.2.0 h.2.1) (tidy_joined (next ∷ more) h.2)

-- what stands round the first `::`
gap_at : (b : ℕ) (bs : List ℕ) (i : ℕ) → (t : Bool) → t ≡ starts_with nat_eq (b ∷ bs) (codes "::") → cond t (Some 0) (option_map (λ k. k + 1) (gap bs)) ≡ Some i
    → ((t ≡ true) × (i ≡ 0)) ⊎ ((k : ℕ) × (gap bs ≡ Some k) × (i ≡ suc k))
gap_at b bs i true is h = inl (refl, sym (cc (h)))
gap_at b bs i false is h =
    let found = map_some (gap bs) (λ k. k + 1) i h in
    let next : i ≡ suc found.0 = omega (arith, found.2) in
    inr (found.0, found.1, next)

pub gap_splits : (text : List ℕ) (i : ℕ) → gap text ≡ Some i → text ≡ take i text ++ 58 ∷ 58 ∷ drop (i + 2) text
gap_splits [] i h = absurd (cc (h))
gap_splits (b ∷ bs) i h =
    elim (gap_at b bs i (starts_with nat_eq (b ∷ bs) (codes "::")) refl h) [
      | inl (test, here) ↦ rw here ((starts_is Decides-eqb (b ∷ bs) (58 ∷ 58 ∷ []) (starts_with nat_eq (b ∷ bs) (codes "::")) refl).0 test)
      | inr (k, found, next) ↦
          let place : suc k + 2 ≡ suc (k + 2) = omega arith in
          rw (next, place) (ap (λ xs. b ∷ xs) (gap_splits bs k found))
    ]
