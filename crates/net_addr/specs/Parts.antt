-- The numbers of an address's text, between its dots or colons.
use Rattle.std.specs.Prelude.{ℕ, List, [], ◌∷◌, ◌++◌, Option, Some, None, length, if◌then◌else◌, nat_lt, ◌==◌}
use Rattle.std.specs.List.{slice_split}
use Rattle.std.specs.Option.{option_map, option_and_then}
use Rattle.tail_base.specs.Numerals.{number_in, short_numeral}
use Rattle.net_addr.specs.declared.parts.Notation.{Notation}
use Rattle.net_addr.specs.declared.parts.Notation.TheVariants.{Decimal, Hexadecimal}

-- what stands between the parts: a dot, or a colon
abbrev pub mark_of : Notation → ℕ
mark_of Decimal = 46
mark_of Hexadecimal = 58

-- a byte in decimal, or 16 bits in one to four hexadecimal digits of either case
abbrev pub part_of : Notation → List ℕ → Option ℕ
part_of Decimal bytes = number_in 3 0 255 bytes
part_of Hexadecimal bytes = short_numeral 16 4 bytes

-- the parts with one more, up to eight
abbrev pub with_part : Notation → List ℕ → List ℕ → Option (List ℕ)
with_part notation parts bytes =
    if nat_lt (length parts) 8 then option_map (λ part. parts ++ part ∷ []) (part_of notation bytes) else None

-- the parts with those that the texts spell
abbrev pub parts_from : Notation → List ℕ → List (List ℕ) → Option (List ℕ)
parts_from notation parts [] = Some parts
parts_from notation parts (bytes ∷ more) = option_and_then (λ longer. parts_from notation longer more) (with_part notation parts bytes)

-- the parts that a text spells, up to eight
abbrev pub parts_of : Notation → List ℕ → Option (List ℕ)
parts_of notation bytes = parts_from notation [] (slice_split (λ b. b == mark_of notation) bytes)
