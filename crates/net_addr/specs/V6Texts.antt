-- Which texts spell an IPv6 address (RFC 4291 section 2.2, forms 1 and 2).
use Rattle.std.specs.Prelude.{◌≡◌, ◌≤◌, ◌⊎◌, ℕ, ◌+◌, ◌-◌, List, [], ◌∷◌, ◌++◌, Some, length, replicate, codes}
use Rattle.std.specs.List.{join_with_byte}
use Rattle.std.specs.Str.Parse.{AllDigits, digits_value}
use Rattle.net_addr.specs.GroupReads.{groups_number}

-- One to four hexadecimal digits, of either case, spell a group of 16 bits.
pub record SpellsGroup (text : List ℕ) (group : ℕ) : Type 0 where
  pub some : 1 ≤ length text
  pub short : length text ≤ 4
  pub digits : AllDigits 16 text
  pub value : digits_value 16 text ≡ group

-- each text spells the group at its place
abbrev pub SpellsGroups : List (List ℕ) → List ℕ → Type 0
SpellsGroups [] [] = Unit {0}
SpellsGroups [] (group ∷ groups) = ⊥
SpellsGroups (text ∷ texts) [] = ⊥
SpellsGroups (text ∷ texts) (group ∷ groups) = SpellsGroup text group × SpellsGroups texts groups

-- Form 1: eight groups with colons between them.
pub record IsWhole (text groups : List ℕ) : Type 0 where
  pub texts : List (List ℕ)
  pub spelled : SpellsGroups texts groups
  pub eight : length groups ≡ 8
  pub is : text ≡ join_with_byte 58 texts

-- Form 2: `::` stands once, for one group of zeros or more.
pub record IsShortened (text groups : List ℕ) : Type 0 where
  pub before_texts : List (List ℕ)
  pub after_texts : List (List ℕ)
  pub before : List ℕ
  pub after : List ℕ
  pub spelled_before : SpellsGroups before_texts before
  pub spelled_after : SpellsGroups after_texts after
  pub fewer : length before + length after ≤ 7
  pub is : text ≡ join_with_byte 58 before_texts ++ (codes "::" ++ join_with_byte 58 after_texts)
  pub filled : groups ≡ before ++ replicate (8 - (length before + length after)) 0 ++ after

-- The text spells the number whose groups one of the forms has.
pub record SpellsV6 (text : List ℕ) (bits : ℕ) : Type 0 where
  pub groups : List ℕ
  pub form : IsWhole text groups ⊎ IsShortened text groups
  pub number : groups_number groups ≡ Some bits
