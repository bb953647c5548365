-- The answers that come, where they are told: number k from now on.
use Rattle.std.specs.Prelude.{◌≡◌, ◌+◌, ℕ, Option}
use Rattle.io_edge.specs.Edge.{IsWhereTold}

-- one answer was taken
pub record Took {A : Type 0} (before now : ℕ → Option A) (answer : A) : Type 0 where
  pub first : IsWhereTold answer (before 0)
  pub rest : (k : ℕ) → now k ≡ before (k + 1)
