-- Tags of the policy file: `tag:`, a letter, and letters, digits or hyphens.
use Rattle.std.specs.Prelude.{ℕ, Bool, false, List, [], ◌∷◌, Option, Some, None, length, drop, codes, if◌then◌else◌, nat_le, nat_eq, ◌&&◌, ◌||◌, ◌==◌}
use Rattle.std.specs.List.{list_all, starts_with}

-- A to Z, and a to z
abbrev pub is_letter : ℕ → Bool
is_letter b = (nat_le 97 b && nat_le b 122) || (nat_le 65 b && nat_le b 90)

-- a letter, a digit or a hyphen
abbrev pub is_tag_byte : ℕ → Bool
is_tag_byte b = is_letter b || (nat_le 48 b && nat_le b 57) || b == 45

-- a letter, and up to 62 letters, digits or hyphens
abbrev pub is_tag_name : List ℕ → Bool
is_tag_name [] = false
is_tag_name (b ∷ bs) = is_letter b && nat_le (length bs) 62 && list_all is_tag_byte bs

-- `tag:` and a tag's name
abbrev pub is_tag : List ℕ → Bool
is_tag bytes = starts_with nat_eq bytes (codes "tag:") && is_tag_name (drop 4 bytes)

-- the tag that a text spells: itself
abbrev pub tag_of : List ℕ → Option (List ℕ)
tag_of bytes = if is_tag bytes then Some bytes else None
