-- What contracts see of the tables: their rows, and the places that are spare.
use Rattle.std.specs.Prelude.{◌≤◌, ℕ, Bool, true, false, List, count_by}
use Rattle.net_rows.specs.Rows.{Rows}
use Rattle.net_rows.specs.declared.change.Row.{Row}
use Rattle.net_rows.specs.declared.change.Row.TheVariants as row

-- How many rows of each kind can be added without memory.
pub record Spare : Type 0 where
  pub users : ℕ
  pub keys : ℕ
  pub pending : ℕ
  pub machines : ℕ

pub record Held : Type 0 where
  pub rows : Rows
  pub spare : Spare

abbrev pub is_user : Row → Bool
is_user (row.User x) = true
is_user (row.Key x) = false
is_user (row.Pending x) = false
is_user (row.Machine x) = false
is_user (row.Extras x) = false
is_user (row.Policy x) = false

abbrev pub is_key : Row → Bool
is_key (row.Key x) = true
is_key (row.User x) = false
is_key (row.Pending x) = false
is_key (row.Machine x) = false
is_key (row.Extras x) = false
is_key (row.Policy x) = false

abbrev pub is_pending : Row → Bool
is_pending (row.Pending x) = true
is_pending (row.User x) = false
is_pending (row.Key x) = false
is_pending (row.Machine x) = false
is_pending (row.Extras x) = false
is_pending (row.Policy x) = false

abbrev pub is_machine : Row → Bool
is_machine (row.Machine x) = true
is_machine (row.User x) = false
is_machine (row.Key x) = false
is_machine (row.Pending x) = false
is_machine (row.Extras x) = false
is_machine (row.Policy x) = false

-- The spare places suffice for these puts.
pub record Suffices (spare : Spare) (puts : List Row) : Type 0 where
  pub users : count_by is_user puts ≤ spare.users
  pub keys : count_by is_key puts ≤ spare.keys
  pub pending : count_by is_pending puts ≤ spare.pending
  pub machines : count_by is_machine puts ≤ spare.machines
