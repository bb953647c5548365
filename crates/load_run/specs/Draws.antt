-- The numbers that the generator draws.
use Rattle.std.specs.Prelude.{ℕ, ◌+◌, ◌*◌, ◌/◌, ◌%◌, ◌^◌}

-- the source before the first draw
abbrev pub first_source : ℕ → ℕ → ℕ
first_source machines events = (machines + events * 2 ^ 32) % 2 ^ 64

-- the source after a draw
unfoldable pub next_source : ℕ → ℕ
next_source x = (x * 6364136223846793005 + 1442695040888963407) % 2 ^ 64

-- what the draw that left the source so gives
abbrev pub number_drawn : ℕ → ℕ
number_drawn x = x / 2 ^ 33
