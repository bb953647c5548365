-- The numbers between spans.
use Rattle.std.specs.Prelude.{ℕ, ◌-◌, List, [], ◌∷◌, nat_lt, if◌then◌else◌}
use Rattle.range_sets.specs.declared.span.Span.{Span}

-- the numbers from a to before b
abbrev pub gap : ℕ → ℕ → List Span
gap a b = if nat_lt a b then record { first = a; last = b - 1 } ∷ [] else []
