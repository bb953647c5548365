-- The numbers that are read in decimal are those that are written.
use Rattle.std.proofs.Common.{◌≡◌, ◌<◌, ◌≤◌, ◌+◌, ◌*◌, ◌^◌, ℕ, Bool, true, false, ◌&&◌, List, [], ◌∷◌, length, get_or, cond, ltb, leb, Option, Some, None, arith, rules, refl, sym, ap, ◌∙◌, inl, inr}
use Rattle.std.specs.Char.{digit_value}
use Rattle.std.specs.Fmt.{decimal}
use Rattle.std.specs.Str.Parse.{AllDigits, digits_value, digits_value_after}
use Rattle.std.proofs.Math.Nat.{pow-le-pow_right}
use Rattle.std.proofs.lemmas.Bool.{and_parts, and_from, cases_lt, lt-ltb, le-leb, leb-true, ltb-true, cond-true, cond-false}
use Rattle.std.proofs.lemmas.Bool.Decides.{nat_tests}
use Rattle.std.proofs.lemmas.Fmt.{decimal_is_IsNumeral, decimal-digits_value, decimal_digit, decimal_nonempty, first_decimal, length-decimal-le}
use Rattle.std.proofs.lemmas.Int.Digits.{digits_value-lt}
use Rattle.std.proofs.lemmas.Str.Parse.{IsNumeralModel, numerals_by_value}
use Rattle.tail_base.specs.Numerals.{digits_in, in_range, leads_with_zero, number_in, numeral, numeral_after, short_numeral}
use Rattle.tail_base.proofs.NumeralLemmas.{pick_some}

-- what is read is digits, and their number
pub numeral_some : (radix n m : ℕ) (bs : List ℕ) → numeral_after radix n bs ≡ Some m → AllDigits radix bs × (digits_value_after radix n bs ≡ m)
numeral_some radix n m [] h = (tt, cc (h))
numeral_some radix n m (b ∷ bs) h =
    let parts = pick_some (ltb (digit_value b) radix) (numeral_after radix (n * radix + digit_value b) bs) m h in
    let more = numeral_some radix (n * radix + digit_value b) m bs parts.1 in
    ((ltb-true (digit_value b) radix parts.0, more.0), more.1)

pub numeral_of_digits : (radix n : ℕ) (bs : List ℕ) → AllDigits radix bs → numeral_after radix n bs ≡ Some (digits_value_after radix n bs)
numeral_of_digits radix n [] h = refl
numeral_of_digits radix n (b ∷ bs) h =
    cond-true (ltb (digit_value b) radix) (numeral_after radix (n * radix + digit_value b) bs) None (lt-ltb (digit_value b) radix h.0)
    ∙ numeral_of_digits radix (n * radix + digit_value b) bs h.1

own : IsNumeralModel (λ ds. AllDigits 10 ds) (digits_value 10)
own = numerals_by_value _ (search rules)

else_some : (t : Bool) (o : Option ℕ) (n : ℕ) → cond t None o ≡ Some n → (t ≡ false) × (o ≡ Some n)
else_some true o n h = absurd (cc)
else_some false o n h = (refl, h)

in_range_some : (least most n : ℕ) (o : Option ℕ) → in_range least most o ≡ Some n → o ≡ Some n
in_range_some least most n (Some m) h = (pick_some (leb least m && leb m most) (Some m) n h).1
in_range_some least most n None h = absurd (cc)

-- a first zero stands alone
zero_alone : (bs : List ℕ) → leads_with_zero bs ≡ false → get_or bs 0 0 ≡ 48 → length bs ≡ 1
zero_alone [] h first = absurd (omega arith)
zero_alone (b ∷ bs) h first = grind (arith, nat_tests)

-- the text of a number that is read is the number's text
pub number_text : (k most n : ℕ) (bs : List ℕ) → k ≤ 5 → number_in k 0 most bs ≡ Some n → bs ≡ decimal n
number_text k most n bs few h =
    let form = else_some (leads_with_zero bs) (digits_in k 0 most bs) n h in
    let picked = pick_some (leb 1 (length bs) && leb (length bs) k) (numeral 10 bs) n (in_range_some 0 most n (short_numeral 10 k bs) form.1) in
    let sized = and_parts (leb 1 (length bs)) (leb (length bs) k) picked.0 in
    let some = leb-true 1 (length bs) sized.0 in
    let short = leb-true (length bs) k sized.1 in
    let read = numeral_some 10 0 n bs picked.1 in
    let below = digits_value-lt 10 bs read.0 in
    let top : 10 ^ length bs ≤ 10 ^ 5 = pow-le-pow_right {n = 10} (omega arith) {i = length bs} {j = 5} (omega arith) in
    sym (decimal-digits_value own bs read.0 some (zero_alone bs form.0) (omega arith)) ∙ ap decimal read.1

leads_short : (bs : List ℕ) → length bs ≡ 1 → leads_with_zero bs ≡ false
leads_short [] one = refl
leads_short (b ∷ bs) one = grind (arith, nat_tests)

leads_high : (bs : List ℕ) → 48 < get_or bs 0 0 → leads_with_zero bs ≡ false
leads_high [] high = refl
leads_high (b ∷ bs) high = grind (arith, nat_tests)

decimal_leads : (n : ℕ) → n < 2 ^ 64 → leads_with_zero (decimal n) ≡ false
decimal_leads n small = elim (cases_lt 0 n) [
  | inl positive ↦ leads_high (decimal n) (first_decimal n positive small)
  | inr none ↦
      let zero_is : n ≡ 0 = omega arith in
      let text : decimal n ≡ 48 ∷ [] = ap decimal zero_is ∙ decimal_digit 0 (omega arith) in
      leads_short (decimal n) (ap length text)
]

-- a number's text is read
pub number_of_decimal : (k most n : ℕ) → 1 ≤ k → n < 2 ^ 64 → n ≤ most → n < 10 ^ k → number_in k 0 most (decimal n) ≡ Some n
number_of_decimal k most n digits word fits small =
    let short = length-decimal-le k n digits small word in
    let some = decimal_nonempty n word in
    let form = decimal_is_IsNumeral n word in
    let read : numeral 10 (decimal n) ≡ Some n = numeral_of_digits 10 0 (decimal n) form.0.1 ∙ ap Some form.1 in
    let sized = and_from _ _ (le-leb 1 (length (decimal n)) some) (le-leb (length (decimal n)) k short) in
    let numeral_is : short_numeral 10 k (decimal n) ≡ Some n = cond-true (leb 1 (length (decimal n)) && leb (length (decimal n)) k) (numeral 10 (decimal n)) None sized ∙ read in
    let ranged = and_from _ _ (le-leb 0 n (omega arith)) (le-leb n most fits) in
    cond-false (leads_with_zero (decimal n)) None (digits_in k 0 most (decimal n)) (decimal_leads n word)
    ∙ ap (in_range 0 most) numeral_is ∙ cond-true (leb 0 n && leb n most) (Some n) None ranged
