-- Ids that rise, looked up by halving.
use Rattle.std.proofs.Common.{◌≡◌, ◌+◌, ◌-◌, ◌++◌, ◌<◌, ◌≤◌, ◌==◌, ℕ, Bool, List, true, false, length, length-append, get_or, arith, ap, inl, inr, sym, ◌∙◌}
use Rattle.std.specs.Prelude.{Result, Ok, Err, Some}
use Rattle.std.specs.List.{IsAllAdjacentAnswer, SameBelow, TailFrom, list_any}
use Rattle.std.specs.List.Sorted.{IsBinarySearchResult, IsNonDecreasingBy, IsSearchInRange}
use Rattle.std.specs.Ordering.{is_le, is_some_and, nat_cmp, ordering_index}
use Rattle.std.specs.declared.cmp.Ordering.TheVariants.{Less, Equal, Greater}
use Rattle.std.specs.Result.{is_ok}
use Rattle.std.proofs.lemmas.Bool.{cases_lt, ne_eqb}
use Rattle.std.proofs.lemmas.Bool.Decides.{nat_tests}
use Rattle.std.proofs.lemmas.List.Folds.{list_any_at, list_any_none}
use Rattle.std.proofs.lemmas.List.Sorted.{non_decreasing_from_is_sorted}

rises : (m n k : ℕ) → m ≤ n → ordering_index (nat_cmp m k) ≤ ordering_index (nat_cmp n k)
rises m n k h = grind (arith, nat_tests)

equal : (m k : ℕ) → nat_cmp m k ≡ Equal → (m == k) ≡ true
equal m k h = grind (arith, nat_tests)

less : (m k : ℕ) → nat_cmp m k ≡ Less → (m == k) ≡ false
less m k h = grind (arith, nat_tests)

greater : (m k : ℕ) → nat_cmp m k ≡ Greater → (m == k) ≡ false
greater m k h = grind (arith, nat_tests)

-- a search finds an id where there is one
pub found_by_halves : (ids : List ℕ) (k : ℕ) (r : Result ℕ ℕ) → IsNonDecreasingBy (λ id. id) ids → IsSearchInRange r (length ids) → IsBinarySearchResult (λ y. nat_cmp y k) ids r
    → is_ok r ≡ list_any (λ other. other == k) ids
found_by_halves ids k (Ok i) up inside at = sym (list_any_at (λ other. other == k) ids i 0 inside (equal (get_or ids i 0) k (at 0)))
found_by_halves ids k (Err i) up inside at =
    let parts = at (λ a b d le below. rises (get_or ids a d) (get_or ids b d) k (up a b d le below)) in
    sym (list_any_none (λ other. other == k) ids (λ j d below.
    elim (cases_lt j i) [
      | inl before ↦ less (get_or ids j d) k (parts.0 j d (omega arith) before)
      | inr behind ↦ greater (get_or ids j d) k (parts.1 j d behind below)
    ]))

-- ids that were found to rise do
pub found_to_rise : (ids : List ℕ) (r : Bool) → IsAllAdjacentAnswer (λ x y b. is_some_and is_le (Some (nat_cmp x y)) ≡ b) ids r → r ≡ true → IsNonDecreasingBy (λ id. id) ids
found_to_rise ids true h e = non_decreasing_from_is_sorted ids true h
found_to_rise ids false h e = cc

-- ids that rise past another have it neither among those before a place nor among those behind
pub risen_past : (ids before behind : List ℕ) (k i : ℕ) → IsNonDecreasingBy (λ id. id) ids → ids ≡ before ++ behind → length before ≡ i → SameBelow ids before i → TailFrom ids behind i
    → (0 < length before → (d : ℕ) → get_or before (length before - 1) d < k) → (0 < length behind → (d : ℕ) → k < get_or behind 0 d) → list_any (λ other. other == k) ids ≡ false
risen_past ids before behind k i up whole len front back below above =
    let sum : length ids ≡ length before + length behind = ap length whole ∙ length-append before behind in
    list_any_none (λ other. other == k) ids (λ j d here.
    elim (cases_lt j i) [
      | inl left ↦
          let last : get_or before (length before - 1) d < k = below (omega arith) d in
          let place : length before - 1 ≡ i - 1 = omega arith in
          let same : get_or before (length before - 1) d ≡ get_or ids (i - 1) d = ap (λ n. get_or before n d) place ∙ front (i - 1) d (omega arith) in
          let less : get_or ids j d ≤ get_or ids (i - 1) d = up j (i - 1) d (omega arith) (omega arith) in
          ne_eqb (get_or ids j d) k (λ e. absurd (omega arith))
      | inr right ↦
          let first : k < get_or behind 0 d = above (omega arith) d in
          let place : i + 0 ≡ i = omega arith in
          let same : get_or behind 0 d ≡ get_or ids i d = back 0 d ∙ ap (λ n. get_or ids n d) place in
          let more : get_or ids i d ≤ get_or ids j d = up i j d right here in
          ne_eqb (get_or ids j d) k (λ e. absurd (omega arith))
    ])
