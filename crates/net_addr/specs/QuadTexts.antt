-- IPv4 addresses as texts: four decimal numbers up to 255 with no leading zero, and dots between them.
use Rattle.std.specs.Prelude.{ℕ, ◌+◌, ◌*◌, ◌/◌, ◌%◌, ◌^◌, List, [], ◌∷◌, map, Option, Some, None}
use Rattle.std.specs.Fmt.{decimal}
use Rattle.std.specs.List.{join_with_byte}
use Rattle.std.specs.Option.{option_and_then}
use Rattle.net_addr.specs.declared.parts.Notation.TheVariants.{Decimal}
use Rattle.net_addr.specs.Parts.{parts_of}

-- the byte of a number, counted from the lowest
abbrev pub byte_at : ℕ → ℕ → ℕ
byte_at bits place = bits / 2 ^ (8 * place) % 256

-- the four bytes of an IPv4 address
abbrev pub quad_bytes : ℕ → List ℕ
quad_bytes bits = map (byte_at bits) (3 ∷ 2 ∷ 1 ∷ 0 ∷ [])

-- The text of an IPv4 address. No other text spells it.
abbrev pub quad_text : ℕ → List ℕ
quad_text bits = join_with_byte 46 (map decimal (quad_bytes bits))

-- the number of four bytes, the highest first
abbrev pub quad_number : List ℕ → Option ℕ
quad_number (a ∷ b ∷ c ∷ d ∷ []) = Some (((a * 256 + b) * 256 + c) * 256 + d)
quad_number parts = None

-- the IPv4 address that a text spells
abbrev pub quad_of_text : List ℕ → Option ℕ
quad_of_text text = option_and_then quad_number (parts_of Decimal text)
