-- The clock and the random words of a load.
use Rattle.std.specs.Prelude.{ℕ, ℤ, ◌+◌, ◌-◌, ◌^◌, min, List, [], ◌∷◌, Option, Some}

-- the words of the draw behind so many others; the number stands still at its type's end
abbrev pub counted_words : ℕ → List ℕ
counted_words before = min (before + 1) (2 ^ 64 - 1) ∷ 0 ∷ 0 ∷ 0 ∷ []

-- what a clock tells that stands at this second
abbrev pub still : ℤ → ℕ → Option ℤ
still seconds k = Some seconds

-- what the random words tell behind so many draws
abbrev pub counted : ℕ → ℕ → Option (List ℕ)
counted drawn k = Some (counted_words (drawn + k))
