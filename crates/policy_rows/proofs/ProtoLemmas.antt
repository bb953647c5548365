-- The text of a protocol's number is read as that protocol.
use Rattle.std.proofs.Common.{◌≡◌, ◌<◌, ◌≤◌, ℕ, zero, suc, Bool, true, false, ◌&&◌, ◌||◌, ◌==◌, List, Option, Some, None, arith, leb, refl, ap, sym, ◌∙◌, inl, inr}
use Rattle.std.specs.Fmt.{decimal, digits}
use Rattle.std.proofs.lemmas.Bool.{and_parts, and_from, le-leb, cond-true, eqb-true, or_cases, cases_lt}
use Rattle.std.specs.Option.{option_map}
use Rattle.tail_base.specs.Numerals.{in_range}
use Rattle.port_sets.specs.Protocols.{proto_of_text}

-- the test passes for each number below
below : ℕ → (ℕ → Bool) → Bool
below zero p = true
below (suc n) p = p n && below n p

below_at : (k n : ℕ) (p : ℕ → Bool) → below k p ≡ true → n < k → p n ≡ true
unfolding below
below_at zero n p h lt = absurd (omega arith)
below_at (suc k) n p h lt =
    let parts = and_parts (p k) (below k p) h in
    elim (cases_lt n k) [
      | inl less ↦ below_at k n p parts.1 less
      | inr not_less ↦ let same : n ≡ k = omega arith in rw same parts.0
    ]

is_number : ℕ → Option ℕ → Bool
is_number n None = false
is_number n (Some m) = m == n

number_is : (n : ℕ) (o : Option ℕ) → is_number n o ≡ true → o ≡ Some n
unfolding is_number
number_is n None h = absurd (cc)
number_is n (Some m) h = ap (λ k. Some k) (eqb-true m n h)

abbrev reads_back : ℕ → Bool
reads_back n = n == 0 || is_number n (proto_of_text (decimal n))

all_read_back : below 256 reads_back ≡ true
unfolding below is_number digits
all_read_back = refl

pub proto_of_decimal : (n : ℕ) → 1 ≤ n → n ≤ 255 → proto_of_text (decimal n) ≡ Some n
proto_of_decimal n low high =
    elim (or_cases (n == 0) _ (below_at 256 n reads_back all_read_back (omega arith))) [
      | inl none ↦ let is : n ≡ 0 = eqb-true n 0 none in absurd (omega arith)
      | inr reads ↦ number_is n _ reads
    ]

-- what is read of a number's text is the protocol of that number
pub numbered : (n : ℕ) (text : List ℕ) (r : Option (Option ℕ)) → 1 ≤ n → n ≤ 255 → text ≡ decimal n → r ≡ option_map (λ p. Some p) (proto_of_text text) → r ≡ option_map (λ p. Some p) (in_range 1 255 (Some n))
numbered n text r low high is read =
    let named : proto_of_text text ≡ Some n = ap proto_of_text is ∙ proto_of_decimal n low high in
    let ranged : in_range 1 255 (Some n) ≡ Some n = cond-true (leb 1 n && leb n 255) (Some n) None (and_from _ _ (le-leb 1 n low) (le-leb n 255 high)) in
    read ∙ ap (option_map (λ p. Some p)) (named ∙ sym ranged)
