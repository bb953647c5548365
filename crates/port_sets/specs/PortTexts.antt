-- The texts of ports.
use Rattle.std.specs.Prelude.{◌≡◌, ℕ, ◌+◌, ◌==◌, Bool, List, [], ◌∷◌, length, Option, Some, None, Result, Ok, Err, codes, if◌then◌else◌, nat_le, nat_lt}
use Rattle.std.specs.List.{slice_split, before_first, after_first, position_or_len}
use Rattle.std.specs.Str.{bytes_eq}
use Rattle.tail_base.specs.Numerals.{digits_in}
use Rattle.tail_base.specs.Steps.{◌>>=◌}
use Rattle.port_sets.specs.declared.fault.PortFault.{PortFault}
use Rattle.port_sets.specs.declared.fault.PortFault.TheVariants.{BadNumber, Reversed, TooMany}
use Rattle.port_sets.specs.declared.range.PortRange.{PortRange}
use Rattle.port_sets.specs.Ranges.{holds, inserted, merged_into}

-- `,`
abbrev pub is_comma : ℕ → Bool
is_comma b = b == 44

-- `-`
abbrev pub is_hyphen : ℕ → Bool
is_hyphen b = b == 45

-- the port that a text spells; leading zeros may stand
abbrev pub port_of_text : List ℕ → Option ℕ
port_of_text text = digits_in 5 0 65535 text

-- the piece from one number to another
abbrev pub piece_between : Option ℕ → Option ℕ → Result PortRange PortFault
piece_between (Some first) (Some last) = if nat_le first last then Ok (record { first = first; last = last }) else Err Reversed
piece_between (Some first) None = Err BadNumber
piece_between None last = Err BadNumber

-- the piece that a text spells: a number, or two with a hyphen between
abbrev pub piece_of : List ℕ → Result PortRange PortFault
piece_of text =
    if nat_lt (position_or_len is_hyphen text) (length text)
    then piece_between (port_of_text (before_first is_hyphen text)) (port_of_text (after_first is_hyphen text))
    else piece_between (port_of_text text) (port_of_text text)

-- the pieces that those texts spell, behind so many pieces; the 65th isn't looked at
abbrev pub pieces_from : ℕ → List (List ℕ) → Result (List PortRange) PortFault
pieces_from count [] = Ok []
pieces_from count (part ∷ parts) =
    if nat_le 64 count then Err TooMany
    else piece_of part >>= (λ piece. pieces_from (count + 1) parts >>= (λ pieces. Ok (piece ∷ pieces)))

-- the ranges with the pieces that those texts spell, behind so many pieces
abbrev pub merged_from : ℕ → List PortRange → List (List ℕ) → Result (List PortRange) PortFault
merged_from count ranges [] = Ok ranges
merged_from count ranges (part ∷ parts) =
    if nat_le 64 count then Err TooMany
    else piece_of part >>= (λ piece. merged_from (count + 1) (inserted piece ranges) parts)

-- the pieces of a text: all ports, or those between the commas
unfoldable pub pieces_of_text : List ℕ → Result (List PortRange) PortFault
pieces_of_text text =
    if bytes_eq text (codes "*") then Ok (record { first = 0; last = 65535 } ∷ [])
    else pieces_from 0 (slice_split is_comma text)

-- the pieces of a text, merged
unfoldable pub ports_of_text : List ℕ → Result (List PortRange) PortFault
ports_of_text text = pieces_of_text text >>= (λ pieces. Ok (merged_into [] pieces))

-- there are pieces, and a port is in one of the ranges exactly where it is in one of the pieces
abbrev pub HoldsSame : Result (List PortRange) PortFault → List PortRange → Type 0
HoldsSame (Ok pieces) ranges = (port : ℕ) → holds ranges port ≡ holds pieces port
HoldsSame (Err fault) ranges = ⊥
