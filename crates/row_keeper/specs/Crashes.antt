-- What a crash may leave, from one object that keeps rows to the one that keeps them next.
use Rattle.std.specs.Prelude.{Bool, Option, IsTrue}
use Rattle.net_rows.specs.declared.rows.Rows.{Rows}

-- If the second is clean the first was, and a crash leaves no more of it than of the first.
pub record LeavesNoMore (was_clean : Bool) (before : Option Rows → Type 0) (is_clean : Bool) (now : Option Rows → Type 0) : Type 0 where
  pub clean : IsTrue is_clean → IsTrue was_clean
  pub crash : IsTrue is_clean → (found : Option Rows) → now found → before found
