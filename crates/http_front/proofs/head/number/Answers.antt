use Rattle.std.proofs.Common.{◌≡◌, ℕ, ◌+◌, ◌-◌, ◌*◌, ◌^◌, ◌<◌, ◌≤◌, List, length, drop, get_or, true, sym, ap, ◌∙◌, arith}
use Rattle.std.proofs.Math.Nat.{pow-suc, pow-le-pow_right}
use Rattle.std.specs.Str.{all_ascii_digits}
use Rattle.std.specs.Str.Parse.{digits_value_after}
use Rattle.std.specs.Char.{is_ascii_digit, digit_value}
use Rattle.std.proofs.lemmas.List.{at_drop_more, at_drop_all}
use Rattle.std.proofs.lemmas.Bool.{and_parts}
use Rattle.std.proofs.lemmas.Bool.Decides.{nat_tests}
use Rattle.http_front.proofs.head.number.Goals as goal

-- one digit more
next : (digits : List ℕ) (i : ℕ) → i < length digits → all_ascii_digits (drop i digits) ≡ true → (is_ascii_digit (get_or digits i 0) ≡ true) × (all_ascii_digits (drop (i + 1) digits) ≡ true)
next digits i within all = and_parts _ _ (sym (at_drop_more all_ascii_digits digits i 0 within) ∙ all)

digit : (x : ℕ) → is_ascii_digit x ≡ true → (48 ≤ x) × (x ≤ 57)
digit x h = (grind (arith, nat_tests), grind (arith, nat_tests))

value_of : (x : ℕ) → is_ascii_digit x ≡ true → digit_value x ≡ x - 48
value_of x h = grind (arith, nat_tests)

small : (v x i : ℕ) → v < 10 ^ i → x ≤ 9 → v * 10 + x < 10 ^ (i + 1)
small v x i h k = let e : 10 ^ (i + 1) ≡ 10 ^ i * 10 = ap (λ n. 10 ^ n) (omega arith) ∙ pow-suc 10 i in omega arith

-- fewer than ten digits so far
room : (v i n : ℕ) → v < 10 ^ i → i < n → n ≤ 10 → v < 1000000000
room v i n h k m = let nine : i ≤ 9 = omega arith in let some : 0 < 10 = omega arith in let top : 10 ^ i ≤ 10 ^ 9 = pow-le-pow_right some nine in omega arith

-- what the digit at i is
at : (digits : List ℕ) (i : ℕ) → i < length digits → all_ascii_digits (drop i digits) ≡ true → (48 ≤ get_or digits i 0) × (get_or digits i 0 ≤ 57)
at digits i within all = digit (get_or digits i 0) (next digits i within all).0

step : (digits : List ℕ) (i v x : ℕ) → i < length digits → all_ascii_digits (drop i digits) ≡ true → x ≡ get_or digits i 0 - 48 → digits_value_after 10 (v * 10 + x) (drop (i + 1) digits) ≡ digits_value_after 10 v (drop i digits)
step digits i v x within all is =
    let e = at_drop_more (digits_value_after 10 v) digits i 0 within in
    let d = value_of (get_or digits i 0) (next digits i within all).0 in
    ap (λ k. digits_value_after 10 (v * 10 + k) (drop (i + 1) digits)) (is ∙ sym d) ∙ sym e

pub overflow_sub-digit : goal.overflow_sub-digit
overflow_sub-digit c = omega (arith, (at c.args.digits.now c.loop-digit.digit-index (omega arith) c.loop-digit.invariant.digits).0)

pub overflow_mul-value : goal.overflow_mul-value
overflow_mul-value c = omega (arith, room c.loop-digit.value c.loop-digit.digit-index (length c.args.digits.now) c.loop-digit.invariant.fits (omega arith) (omega arith))

pub overflow_add-value : goal.overflow_add-value
overflow_add-value c = omega (arith, room c.loop-digit.value c.loop-digit.digit-index (length c.args.digits.now) c.loop-digit.invariant.fits (omega arith) (omega arith), (at c.args.digits.now c.loop-digit.digit-index (omega arith) c.loop-digit.invariant.digits).1)

pub loop-digit-preserved : goal.loop-digit-preserved
loop-digit-preserved c =
    let within : c.loop-digit.digit-index < length c.args.digits.now = omega arith in
    record {
      digits = (next c.args.digits.now c.loop-digit.digit-index within c.loop-digit.invariant.digits).1;
      number = step c.args.digits.now c.loop-digit.digit-index c.loop-digit.value c.from.result within c.loop-digit.invariant.digits c.from.ensures ∙ c.loop-digit.invariant.number;
      fits = small c.loop-digit.value c.from.result c.loop-digit.digit-index c.loop-digit.invariant.fits (omega (arith, (at c.args.digits.now c.loop-digit.digit-index within c.loop-digit.invariant.digits).1));
    }

pub returns : goal.returns
returns c = record { value = sym (at_drop_all (digits_value_after 10 c.loop-digit.value) c.args.digits.now c.loop-digit.digit-index (omega arith)) ∙ c.loop-digit.invariant.number }
