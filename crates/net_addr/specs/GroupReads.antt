-- IPv6 addresses of texts (RFC 4291 section 2.2): eight groups with colons between them, or fewer
-- with `::` once for the zero groups that are left out.
use Rattle.std.specs.Prelude.{ℕ, ◌+◌, ◌-◌, ◌*◌, List, [], ◌∷◌, ◌++◌, Option, Some, None, length, take, drop, replicate, codes, if◌then◌else◌, nat_le, nat_eq}
use Rattle.std.specs.List.{starts_with}
use Rattle.std.specs.Option.{option_map, option_and_then}
use Rattle.net_addr.specs.declared.parts.Notation.TheVariants.{Hexadecimal}
use Rattle.net_addr.specs.Parts.{parts_of}

-- where the first `::` stands
abbrev pub gap : List ℕ → Option ℕ
gap [] = None
gap (b ∷ bs) = if starts_with nat_eq (b ∷ bs) (codes "::") then Some 0 else option_map (λ i. i + 1) (gap bs)

-- the groups on one side of `::`, maybe none
abbrev pub side : List ℕ → Option (List ℕ)
side [] = Some []
side (b ∷ bs) = parts_of Hexadecimal (b ∷ bs)

-- the groups with zeros between them, eight in all, where at least one is left out
abbrev pub filled : List ℕ → List ℕ → Option (List ℕ)
filled before after =
    if nat_le (length before + length after) 7
    then Some (before ++ replicate (8 - (length before + length after)) 0 ++ after)
    else None

-- the groups of a text whose first `::` stands there
abbrev pub groups_around : List ℕ → Option ℕ → Option (List ℕ)
groups_around text None = parts_of Hexadecimal text
groups_around text (Some i) = option_and_then (λ before. option_and_then (filled before) (side (drop (i + 2) text))) (side (take i text))

-- the number of eight groups, the highest first
abbrev pub groups_number : List ℕ → Option ℕ
groups_number (a ∷ b ∷ c ∷ d ∷ e ∷ f ∷ g ∷ h ∷ []) =
    Some (((((((a * 65536 + b) * 65536 + c) * 65536 + d) * 65536 + e) * 65536 + f) * 65536 + g) * 65536 + h)
groups_number groups = None

-- the IPv6 address that a text spells
abbrev pub v6_of_text : List ℕ → Option ℕ
v6_of_text text = option_and_then groups_number (groups_around text (gap text))
