-- The spans that are looked at from a number on, and what they have.
use Rattle.std.specs.Prelude.{ℕ, ◌≤◌, ◌&&◌, Bool, nat_le, List, [], ◌∷◌, nat_lt, if◌then◌else◌}
use Rattle.range_sets.specs.declared.span.Span.{Span}

-- the list without the spans at its front that end below a number
abbrev pub ending_from : ℕ → List Span → List Span
ending_from least [] = []
ending_from least (s ∷ ss) = if nat_lt s.last least then ending_from least ss else s ∷ ss

-- the list is empty or its first span ends there or later
abbrev pub EndsFrom : ℕ → List Span → Type 0
EndsFrom least [] = Unit {0}
EndsFrom least (s ∷ ss) = least ≤ s.last

-- the span has each number from the first to the last
abbrev pub has_all : Span → ℕ → ℕ → Bool
has_all s first last = nat_le s.first first && nat_le last s.last
