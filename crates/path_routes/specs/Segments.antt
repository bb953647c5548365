-- Segments of paths.
use Rattle.std.specs.Prelude.{ℕ, List, [], ◌∷◌, Option, drop, ◌==◌, if◌then◌else◌}
use Rattle.matchit.specs.Seek.{slash}
use Rattle.net_rows.specs.declared.limits.TheConstants.{COUNTER_LIMIT}
use Rattle.tail_base.specs.Numerals.{number_in}

-- the bytes before the first slash, or all
abbrev pub before_slash : List ℕ → List ℕ
before_slash [] = []
before_slash (b ∷ bs) = if b == slash then [] else b ∷ before_slash bs

-- the bytes of a path from a place on, up to a slash or the end
abbrev pub segment_from : List ℕ → ℕ → List ℕ
segment_from path start = before_slash (drop start path)

-- the id that a segment spells, without leading zeros
abbrev pub id_of : List ℕ → Option ℕ
id_of text = number_in 10 1 COUNTER_LIMIT text
