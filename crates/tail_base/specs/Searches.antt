-- Searches, for definitions: nothing runs them.
use Rattle.std.specs.Prelude.{ℕ, zero, suc, Bool, false, ◌||◌}

-- Some number below the bound passes the test.
unfoldable pub some_below : ℕ → (ℕ → Bool) → Bool
some_below zero test = false
some_below (suc n) test = test n || some_below n test
