-- The field lines of a head by name, without regard to ASCII case (RFC 9110, sections 5.1 and 8.6).
use Rattle.std.specs.Prelude.{ℕ, List, [], ◌∷◌, length, Bool, true, false, ◌&&◌, nat_le, nat_lt, if◌then◌else◌, Option, Some, None, Result, Ok, Err}
use Rattle.std.specs.Str.{str_eq_ignore_ascii_case, bytes_eq, all_ascii_digits}
use Rattle.std.specs.Str.Parse.{digits_value}
use Rattle.http_front.specs.declared.head.TheConstants.{BODY_LIMIT}
use Rattle.http_front.specs.declared.head_fault.HeadFault.{HeadFault}
use Rattle.http_front.specs.declared.head_fault.HeadFault.TheVariants.{BadHead, NoLength, BodyTooLong}

-- a name and a value
abbrev pub FieldLine : Type 0
FieldLine = List ℕ × List ℕ

-- the values of the lines of that name, in order
abbrev pub values_of : List ℕ → List FieldLine → List (List ℕ)
values_of name [] = []
values_of name (l ∷ ls) = if str_eq_ignore_ascii_case l.0 name then l.1 ∷ values_of name ls else values_of name ls

-- the first value
abbrev pub first_of : List (List ℕ) → Option (List ℕ)
first_of [] = None
first_of (v ∷ vs) = Some v

-- whether some value is the word, without regard to case
abbrev pub any_is : List ℕ → List (List ℕ) → Bool
any_is word [] = false
any_is word (v ∷ vs) = if str_eq_ignore_ascii_case v word then true else any_is word vs

-- whether all values are that one, byte for byte
abbrev pub all_are : List ℕ → List (List ℕ) → Bool
all_are value [] = true
all_are value (v ∷ vs) = if bytes_eq v value then all_are value vs else false

-- the most bytes that a body may have: 1 MiB
abbrev pub body_limit : ℕ
body_limit = BODY_LIMIT

-- whether the bytes are 1 to 10 decimal digits
abbrev pub is_length : List ℕ → Bool
is_length v = nat_lt 0 (length v) && (nat_le (length v) 10 && all_ascii_digits v)

-- the number that 1 to 10 digits write
abbrev pub length_value : List ℕ → Option ℕ
length_value v = if is_length v then Some (digits_value 10 v) else None

-- that number, if a body may be so long
abbrev pub limited : Option ℕ → Result ℕ HeadFault
limited None = Err BadHead
limited (Some n) = if nat_le n body_limit then Ok n else Err BodyTooLong

-- the length that the first value states, if all values are the same; without a value there is no body, unless one must be
-- stated
abbrev pub agreed : Bool → Option (List ℕ) → List (List ℕ) → Result ℕ HeadFault
agreed wanted None vs = if wanted then Err NoLength else Ok 0
agreed wanted (Some v) vs = if all_are v vs then limited (length_value v) else Err BadHead

-- the length of a body by the values of its `Content-Length` lines, or why the head is refused
unfoldable pub body_length : Bool → List (List ℕ) → Result ℕ HeadFault
body_length wanted vs = agreed wanted (first_of vs) vs
