-- Bounds of numbers that are read.
use Rattle.std.proofs.Common.{◌≡◌, ◌<◌, ◌≤◌, ◌+◌, ◌*◌, ◌^◌, ℕ, Bool, true, false, ◌&&◌, suc, List, [], ◌∷◌, length, cond, ltb, leb, Option, Some, None, arith, refl}
use Rattle.std.specs.Char.{digit_value}
use Rattle.std.proofs.Math.Nat.{mul-le-mul_left, pow-le-pow_right}
use Rattle.std.proofs.lemmas.Bool.{and_parts, ltb-true, leb-true}
use Rattle.std.proofs.lemmas.Grind.{pow_more}
use Rattle.tail_base.specs.Numerals.{digits_in, in_range, leads_with_zero, number_in, numeral, numeral_after, short_numeral}

-- one more digit
pub next_below : (n radix d i : ℕ) → n < 16 ^ i → radix ≤ 16 → d < radix → n * radix + d < 16 ^ (i + 1)
next_below n radix d i below small digit =
    let most = mul-le-mul_left n small in
    let more = pow_more 16 i in
    omega arith

pub product_fits : (n radix i : ℕ) → n < 16 ^ i → i < 10 → radix ≤ 16 → n * radix ≤ 16 ^ 10
product_fits n radix i below short small =
    let top : 16 ^ i ≤ 16 ^ 9 = pow-le-pow_right {n = 16} (omega arith) {i = i} {j = 9} (omega arith) in
    let most = mul-le-mul_left n small in
    omega arith

pub pick_some : {A : Type 0} (t : Bool) (x : Option A) (y : A) → cond t x None ≡ Some y → (t ≡ true) × (x ≡ Some y)
pick_some true x y h = (refl, h)
pick_some false x y h = absurd (cc)

pub numeral_below : (m n k : ℕ) (bs : List ℕ) → m < 16 ^ k → numeral_after 16 m bs ≡ Some n → n < 16 ^ (k + length bs)
numeral_below m n k [] below h =
    let same : m ≡ n = cc in
    let here : k + 0 ≡ k = omega arith in
    rw (here, ← same) below
numeral_below m n k (b ∷ bs) below h =
    let parts = pick_some (ltb (digit_value b) 16) (numeral_after 16 (m * 16 + digit_value b) bs) n h in
    let digit = ltb-true (digit_value b) 16 parts.0 in
    let here : k + suc (length bs) ≡ (k + 1) + length bs = omega arith in
    rw here (numeral_below (m * 16 + digit_value b) n (k + 1) bs (next_below m 16 (digit_value b) k below (omega arith) digit) parts.1)

-- four digits in the radix 16 spell a group of 16 bits
pub group_fits : (bs : List ℕ) (n : ℕ) → short_numeral 16 4 bs ≡ Some n → n < 65536
group_fits bs n h =
    let parts = pick_some (leb 1 (length bs) && leb (length bs) 4) (numeral 16 bs) n h in
    let short = leb-true (length bs) 4 (and_parts (leb 1 (length bs)) (leb (length bs) 4) parts.0).1 in
    let below = numeral_below 0 n 0 bs (omega arith) parts.1 in
    let top : 16 ^ (0 + length bs) ≤ 16 ^ 4 = pow-le-pow_right {n = 16} (omega arith) {i = 0 + length bs} {j = 4} (omega arith) in
    omega arith

in_range_parts : (least greatest n : ℕ) (o : Option ℕ) → in_range least greatest o ≡ Some n → (least ≤ n) × (n ≤ greatest)
in_range_parts least greatest n (Some m) h =
    let parts = pick_some (leb least m && leb m greatest) (Some m) n h in
    let same : m ≡ n = cc (parts.1) in
    let tests = and_parts (leb least m) (leb m greatest) parts.0 in
    (omega (arith, leb-true least m tests.0), omega (arith, leb-true m greatest tests.1))
in_range_parts least greatest n None h = absurd (cc)

-- what was read is in the range
pub digits_in_fits : (most least greatest n : ℕ) (bs : List ℕ) → digits_in most least greatest bs ≡ Some n → (least ≤ n) × (n ≤ greatest)
digits_in_fits most least greatest n bs h = in_range_parts least greatest n (short_numeral 10 most bs) h

if_not : {A : Type 0} (t : Bool) (x : Option A) (y : A) → cond t None x ≡ Some y → (t ≡ false) × (x ≡ Some y)
if_not true x y h = absurd (cc)
if_not false x y h = (refl, h)

pub number_in_fits : (most least greatest n : ℕ) (bs : List ℕ) → number_in most least greatest bs ≡ Some n → (least ≤ n) × (n ≤ greatest)
number_in_fits most least greatest n bs h = digits_in_fits most least greatest n bs (if_not (leads_with_zero bs) (digits_in most least greatest bs) n h).1
