-- What two lists of spans share.
use Rattle.std.specs.Prelude.{◌≡◌, ℕ, ◌&&◌, Bool, true, List, nat_le}
use Rattle.range_sets.specs.declared.span.Span.{Span}
use Rattle.range_sets.specs.Spans.{spans_hold}

-- neither span ends before the other begins
abbrev pub meets : Span → Span → Bool
meets a b = nat_le a.first b.last && nat_le b.first a.last

-- some number is in both lists
abbrev pub ShareNumber : List Span → List Span → Type 0
ShareNumber a b = (x : ℕ) × (spans_hold a x ≡ true) × (spans_hold b x ≡ true)
