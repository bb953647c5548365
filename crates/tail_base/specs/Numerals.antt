-- Numbers as digits.
use Rattle.std.specs.Prelude.{ℕ, ◌+◌, ◌*◌, Bool, false, List, [], ◌∷◌, Option, Some, None, length, if◌then◌else◌, nat_le, nat_lt, ◌&&◌, ◌==◌}
use Rattle.std.specs.Char.{digit_value}

-- the number of these digits, behind those of n
abbrev pub numeral_after : ℕ → ℕ → List ℕ → Option ℕ
numeral_after radix n [] = Some n
numeral_after radix n (b ∷ bs) = if nat_lt (digit_value b) radix then numeral_after radix (n * radix + digit_value b) bs else None

-- the number of these digits
abbrev pub numeral : ℕ → List ℕ → Option ℕ
numeral radix bytes = numeral_after radix 0 bytes

-- the number of one up to so many digits; leading zeros may stand
abbrev pub short_numeral : ℕ → ℕ → List ℕ → Option ℕ
short_numeral radix most bytes = if nat_le 1 (length bytes) && nat_le (length bytes) most then numeral radix bytes else None

-- the number, if it is in the range
abbrev pub in_range : ℕ → ℕ → Option ℕ → Option ℕ
in_range least greatest None = None
in_range least greatest (Some n) = if nat_le least n && nat_le n greatest then Some n else None

-- the number in a range that up to so many decimal digits spell; leading zeros may stand
abbrev pub digits_in : ℕ → ℕ → ℕ → List ℕ → Option ℕ
digits_in most least greatest bytes = in_range least greatest (short_numeral 10 most bytes)

-- there are more digits than one, and the first is 0
abbrev pub leads_with_zero : List ℕ → Bool
leads_with_zero [] = false
leads_with_zero (b ∷ bs) = b == 48 && nat_le 1 (length bs)

-- the same, without leading zeros
abbrev pub number_in : ℕ → ℕ → ℕ → List ℕ → Option ℕ
number_in most least greatest bytes = if leads_with_zero bytes then None else digits_in most least greatest bytes
