-- How the rows of the tables stand in the trees of a database, and what a change makes of them.
use Rattle.std.specs.Prelude.{◌≡◌, ◌+◌, ℕ, List, [], ◌∷◌, map, Option, Some, None, IsPermutation}
use Rattle.net_rows.specs.Rows.{after}
use Rattle.net_rows.specs.declared.change.Change.{Change}
use Rattle.net_rows.specs.declared.rows.Rows.{Rows}
use Rattle.net_rows.specs.Shelf.{IsAscending}
use Rattle.sqlite.specs.Effect.{Database}
use Rattle.sqlite_value.specs.Order.{Row}
use Rattle.sqlite_value.specs.declared.value.Value.{Value}
use Rattle.sqlite_value.specs.declared.value.Value.TheVariants as value
use Rattle.sqlite.specs.Tree.{Trees}
use Rattle.store_rows.specs.Readable.{IsReadableChange}
use Rattle.store_rows.specs.Rows.{auth_key_cells, extra_cells, machine_cells, meta_cells, pending_cells, policy_cells, user_cells}
use Rattle.store_rows.specs.declared.cell.Cell.{Cell}
use Rattle.store_rows.specs.declared.cell.Cell.TheVariants.{Null, Number, Text, Blob, Other}
use Rattle.store_sql.specs.Ran.{HasRun}
use Rattle.store_sql.specs.Schema.{schema_1}
use Rattle.store_sql.specs.declared.texts.TheConstants.{INSERT_EXTRAS}
use Rattle.tailcfg.specs.declared.dns.DnsExtra.{DnsExtra}

-- the value that a cell is stored as
abbrev pub value_of : Cell → Value
value_of Null = value.Null
value_of (Number n) = value.Int n
value_of (Text text) = value.Text text
value_of (Blob bytes) = value.Blob bytes
value_of Other = value.Null

-- the row of a tree: its rowid, NULL in the place of the key, and the other columns
abbrev pub tree_row : List Cell → Row
tree_row [] = []
tree_row (id ∷ cells) = value_of id ∷ value.Null ∷ map value_of cells

-- the extra records, at the places from this one on
abbrev pub placed_rows : ℕ → List DnsExtra → List Row
placed_rows place [] = []
placed_rows place (extra ∷ more) = tree_row (extra_cells place extra) ∷ placed_rows (place + 1) more

-- the policy's text, if there is one
abbrev pub policy_row : Option (List ℕ) → List Row
policy_row None = []
policy_row (Some body) = tree_row (policy_cells body) ∷ []

-- The tree holds these rows and no other ones, in some order.
abbrev pub HoldsInTree : List Row → List Row → Type 0
HoldsInTree tree rows = IsPermutation rows tree

-- The trees of the seven tables hold these rows and no other ones.
pub record AreStored (trees : Trees) (rows : Rows) : Type 0 where
  pub meta : trees 0 ≡ tree_row (meta_cells rows.next) ∷ []
  pub users : HoldsInTree (trees 1) (map (λ r. tree_row (user_cells r)) rows.users)
  pub keys : HoldsInTree (trees 3) (map (λ r. tree_row (auth_key_cells r)) rows.keys)
  pub pending : HoldsInTree (trees 5) (map (λ r. tree_row (pending_cells r)) rows.pending)
  pub machines : HoldsInTree (trees 8) (map (λ r. tree_row (machine_cells r)) rows.machines)
  pub extras : HoldsInTree (trees 14) (placed_rows 1 rows.extras)
  pub policy : trees 15 ≡ policy_row rows.policy

-- The ids of each kind rise.
pub record AreById (rows : Rows) : Type 0 where
  pub users : IsAscending (λ r. r.id) rows.users
  pub keys : IsAscending (λ r. r.id) rows.keys
  pub pending : IsAscending (λ r. r.id) rows.pending
  pub machines : IsAscending (λ r. r.id) rows.machines

-- The database has the tables of schema 1, and they hold these rows, whose ids rise.
pub record Keeps (db : Database) (rows : Rows) : Type 0 where
  pub schema : db.schema ≡ schema_1
  pub stored : AreStored db.trees rows
  pub ordered : AreById rows

-- Whatever rows the old database keeps, the new one keeps what is made of them.
abbrev pub Makes : Database → Database → (Rows → Rows) → Type 0
Makes old new f = (rows : Rows) → Keeps old rows → Keeps new (f rows)

-- an INSERT of an extra record ran with these values
abbrev pub IsAdded : Row → Database → Database → Type 0
IsAdded values old new = (count : ℕ) × HasRun INSERT_EXTRAS.now values count old new

-- The trees hold the rows after the change, whatever rows the database keeps, and what the change puts can be read again.
pub record HoldsChange (old : Database) (change : Change) (trees : Trees) : Type 0 where
  pub made : (rows : Rows) → Keeps old rows → AreStored trees (after rows change)
  pub readable : IsReadableChange change
