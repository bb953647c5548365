-- Numbers as spans.
use Rattle.std.specs.Prelude.{ℕ, ◌+◌, ◌<◌, ◌≤◌, ◌&&◌, Bool, List, [], ◌∷◌, nat_le}
use Rattle.std.specs.List.{All, list_any}
use Rattle.range_sets.specs.declared.span.Span.{Span}

-- the number is one of the span's
abbrev pub in_span : Span → ℕ → Bool
in_span s x = nat_le s.first x && nat_le x s.last

-- some span has the number
abbrev pub spans_hold : List Span → ℕ → Bool
spans_hold ss x = list_any (λ s. in_span s x) ss

-- the spans go from low on, none is empty, and between two of them, and before high, lies a number
-- that none has: so they ascend, and neither overlap nor adjoin
abbrev pub AreApart : ℕ → List Span → ℕ → Type 0
AreApart low [] high = low ≤ high
AreApart low (s ∷ ss) high = (low ≤ s.first) × (s.first ≤ s.last) × AreApart (s.last + 2) ss high

-- spans by their first numbers, from low on, none of them empty
abbrev pub AreRising : ℕ → List Span → Type 0
AreRising low [] = Unit {0}
AreRising low (s ∷ ss) = (low ≤ s.first) × (s.first ≤ s.last) × AreRising s.first ss

-- none is empty, and each ends below the size
abbrev pub AreSound : ℕ → List Span → Type 0
AreSound size ss = All (λ s. (s.first ≤ s.last) × (s.last < size)) ss

-- each span ends below the size
abbrev pub AreBelow : ℕ → List Span → Type 0
AreBelow size [] = Unit {0}
AreBelow size (s ∷ ss) = (s.last < size) × AreBelow size ss
