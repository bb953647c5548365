-- What an open after a crash may find.
use Rattle.std.specs.Prelude.{◌≡◌, Bool, false, Option, Some, None, ⊤}
use Rattle.std.specs.Option.{option_and_then}
use Rattle.net_rows.specs.declared.rows.Rows.{Rows}
use Rattle.sqlite.specs.State.{State}
use Rattle.sqlite_trees.specs.Tree.{Trees}
use Rattle.store_loads.specs.Told.{if_sound, tables_in}

-- The rows that a load finds in these trees: none where they aren't the rows of values that keep the rules of the tables.
unfoldable pub rows_left : Trees → Option Rows
rows_left trees = option_and_then if_sound (tables_in trees)

-- A crash of the store at this moment may leave trees in which these rows are found.
pub record MayBeFound (s : State) (found : Option Rows) : Type 0 where
  pub trees : Trees
  pub may : s.may_leave trees
  pub is : rows_left trees ≡ found

-- The same of a store that may be lent out: nothing is known of one that is.
abbrev pub may_be_found : {C : Type 0} → (C → State) → Option C → Option Rows → Type 0
may_be_found state_of None found = ⊤
may_be_found state_of (Some c) found = MayBeFound (state_of c) found

abbrev pub is_clean_in : {C : Type 0} → (C → State) → Option C → Bool
is_clean_in state_of None = false
is_clean_in state_of (Some c) = (state_of c).is_clean
