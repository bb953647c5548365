-- Sets of ports as lists of ranges.
use Rattle.std.specs.Prelude.{ℕ, ◌+◌, ◌≤◌, ◌<◌, ◌^◌, Bool, List, [], ◌∷◌, length, if◌then◌else◌, nat_le, nat_lt, ◌&&◌, min, max}
use Rattle.std.specs.List.{list_any}
use Rattle.port_sets.specs.declared.range.PortRange.{PortRange}

-- the port is in the range
abbrev pub in_piece : ℕ → PortRange → Bool
in_piece port range = nat_le range.first port && nat_le port range.last

-- one of the ranges holds the port
abbrev pub holds : List PortRange → ℕ → Bool
holds ranges port = list_any (in_piece port) ranges

-- the ranges begin at a port or later, none is empty, and before each but the first lies a port
-- that none holds: so they ascend, and neither overlap nor touch
abbrev pub IsApart : ℕ → List PortRange → Type 0
IsApart least [] = Unit {0}
IsApart least (range ∷ ranges) = (least ≤ range.first) × (range.first ≤ range.last) × (range.last < 2 ^ 16) × IsApart (range.last + 2) ranges

-- there is a range, none is empty, and a port that none holds lies between any two
pub record IsPorts (ranges : List PortRange) : Type 0 where
  pub some : 0 < length ranges
  pub apart : IsApart 0 ranges

-- a port lies between the first range and the second
abbrev pub is_before : PortRange → PortRange → Bool
is_before range other = nat_lt (range.last + 1) other.first

-- from the lesser first to the greater last
abbrev pub joined : PortRange → PortRange → PortRange
joined range other = record { first = min range.first other.first; last = max range.last other.last }

-- the ranges with one more, which is joined with those that it overlaps or touches
abbrev pub inserted : PortRange → List PortRange → List PortRange
inserted range [] = range ∷ []
inserted range (other ∷ others) =
    if is_before other range then other ∷ inserted range others
    else if is_before range other then range ∷ inserted other others
    else inserted (joined range other) others

-- the ranges with all of those
abbrev pub merged_into : List PortRange → List PortRange → List PortRange
merged_into ranges [] = ranges
merged_into ranges (piece ∷ pieces) = merged_into (inserted piece ranges) pieces
