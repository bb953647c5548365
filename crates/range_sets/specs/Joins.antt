-- Spans that are joined if they adjoin.
use Rattle.std.specs.Prelude.{◌≡◌, ℕ, ◌+◌, ◌≤◌, ◌⊎◌, Bool, List, [], ◌∷◌, ◌++◌, nat_le, max, if◌then◌else◌}
use Rattle.range_sets.specs.declared.span.Span.{Span}

-- no number lies between the first span and the second, which begins no earlier
abbrev pub adjoins : Span → Span → Bool
adjoins a b = nat_le b.first (a.last + 1)

-- from the first number of the first span to the greater last
abbrev pub joined : Span → Span → Span
joined a b = record { first = a.first; last = max a.last b.last }

-- the list is empty or begins there or later
abbrev pub BeginsFrom : ℕ → List Span → Type 0
BeginsFrom low [] = Unit {0}
BeginsFrom low (s ∷ ss) = low ≤ s.first

-- a span is taken from the front of the first list, which begins no later than the second
pub record TakesFront (a b : List Span) (s : Span) (a_rest b_rest : List Span) : Type 0 where
  pub front : a ≡ s ∷ a_rest
  pub other : b_rest ≡ b
  pub earliest : BeginsFrom s.first b

-- a span is taken from the front of one of two lists, whichever begins first
abbrev pub TakesEarliest : List Span → List Span → Span → List Span → List Span → Type 0
TakesEarliest a b s a_rest b_rest = TakesFront a b s a_rest b_rest ⊎ TakesFront b a s b_rest a_rest

-- a span that may still grow is put away if the next one doesn't adjoin it
abbrev pub put_away : List Span → Span → Span → List Span
put_away out current next = if adjoins current next then out else out ++ current ∷ []

-- the span that may still grow from then on
abbrev pub grown : Span → Span → Span
grown current next = if adjoins current next then joined current next else next
