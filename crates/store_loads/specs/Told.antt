-- What a database tells of the tables: the rows that stand in it.
use base.Stored.{Gv, gnil, gnum, gcons}
use Rattle.std.specs.Prelude.{Bool, true, false, List, ◌==◌, ◌&&◌, Option, Some, None, is_none, is_some, not, ◌||◌, if◌then◌else◌}
use Rattle.std.specs.Option.{option_and_then, option_map}
use Rattle.net_rows.specs.Damage.{damage}
use Rattle.net_rows.specs.Rows.{empty_rows}
use Rattle.net_rows.specs.declared.rows.Rows.{Rows}
use Rattle.sqlite.specs.Effect.{Database}
use Rattle.sqlite.specs.State.{State}
use Rattle.sqlite_keyed.specs.Lists.{sort_by}
use Rattle.sqlite_schema.specs.contracts.schema.Schema.{the_row}
use Rattle.sqlite_schema.specs.declared.schema.Schema.{Schema}
use Rattle.sqlite_trees.specs.Tree.{Trees, rowid}
use Rattle.sqlite_value.specs.Order.{Row, value_cmp}
pub use Rattle.store_reads.specs.Values.{extras_in, next_in, policy_in_rows, tree_cells, values_in}
use Rattle.store_rows.specs.Reading.{auth_key_of, machine_in_cells, pending_in_cells, user_in_cells}
use Rattle.store_sql.specs.Schema.{no_schema, schema_1}

-- ---- one schema

abbrev pub same_code : Gv → Gv → Bool
same_code gnil gnil = true
same_code gnil (gnum n) = false
same_code gnil (gcons c d) = false
same_code (gnum m) gnil = false
same_code (gnum m) (gnum n) = m == n
same_code (gnum m) (gcons c d) = false
same_code (gcons a b) gnil = false
same_code (gcons a b) (gnum n) = false
same_code (gcons a b) (gcons c d) = same_code a c && same_code b d

unfoldable pub is_schema : Schema → Schema → Bool
is_schema a b = same_code (the_row.coded.code a) (the_row.coded.code b)

-- ---- tables

-- the rows of a tree by their rowids
abbrev pub in_order : List Row → List Row
in_order = sort_by (λ a b. value_cmp (rowid a) (rowid b))

-- the rows of the trees, if they are the rows of values
abbrev pub tables_in : Trees → Option Rows
tables_in trees =
    option_and_then (λ next.
    option_and_then (λ users.
    option_and_then (λ keys.
    option_and_then (λ pending.
    option_and_then (λ machines.
    option_and_then (λ extras.
    option_map (λ policy. record { users = users; keys = keys; pending = pending; machines = machines; extras = extras; policy = policy; next = next })
    (policy_in_rows (trees 15)))
    (extras_in 1 (in_order (trees 14))))
    (values_in machine_in_cells (in_order (trees 8))))
    (values_in pending_in_cells (in_order (trees 5))))
    (values_in auth_key_of (in_order (trees 3))))
    (values_in user_in_cells (in_order (trees 1))))
    (next_in (trees 0))

-- the rows, unless they break a rule of the tables
abbrev pub if_sound : Rows → Option Rows
if_sound rows = if is_none (damage rows) then Some rows else None

-- the rows of a database: none where it has no table
unfoldable pub rows_of : Database → Option Rows
rows_of db =
    if is_schema db.schema schema_1 then option_and_then if_sound (tables_in db.trees)
    else (if is_schema db.schema no_schema then Some empty_rows else None)

-- A store that is clean and open tells the rows of what it shows.
unfoldable pub store_tells : State → Option Rows
store_tells s = if s.is_clean && s.is_open then rows_of s.now else None

-- A store that is clean and open has our tables, and tells rows.
unfoldable pub is_known : State → Bool
is_known s = not (s.is_clean && s.is_open) || (is_schema s.now.schema schema_1 && is_some (rows_of s.now))
