-- Rows as they stand in the tree of a table, under their ids.
use Rattle.std.specs.Prelude.{◌≡◌, ◌≢◌, ℕ, pos, not, nat_eq, List, [], ◌∷◌, drop, filter, map}
use Rattle.std.specs.List.{AllByRecursion}
use Rattle.sqlite_value.specs.declared.value.Value.TheVariants.{Int, Null}
use Rattle.sqlite_value.specs.Order.{Row}
use Rattle.sqlite_trees.specs.Tree.{Trees, put_row}
use Rattle.sqlite_schema.specs.declared.schema.Column.{Column}
use Rattle.sqlite_schema.specs.declared.schema.Schema.{Schema}
use Rattle.sqlite_schema.specs.declared.schema.Table.{Table}
use Rattle.sqlite_rules.specs.Cast.{cast}
use Rattle.sqlite.specs.Effect.{Database}
use Rattle.store_sql.specs.Ran.{HasRun, IsPutBy}
use Rattle.store_sql.specs.Schema.{schema_1}

-- the row of a tree, of its id and the columns behind it: NULL stands in the place of the key
abbrev pub row_standing : ℕ × Row → Row
row_standing (id, columns) = Int (pos id) ∷ Null ∷ columns

-- the rows but that of this id
abbrev pub without_id : ℕ → List (ℕ × Row) → List (ℕ × Row)
without_id id = filter (λ r. not (nat_eq r.0 id))

-- The database has the tables of schema 1, and these rows stand in this tree.
pub record Stands (tree : ℕ) (rows : List (ℕ × Row)) (db : Database) : Type 0 where
  pub schema : db.schema ≡ schema_1
  pub rows_are : db.trees tree ≡ map row_standing rows

-- the trees of the other tables are as they were
abbrev pub AreOthersKept : Schema → ℕ → Trees → Trees → Type 0
AreOthersKept schema tree old new = AllByRecursion (λ t. t.tree ≢ tree → new t.tree ≡ old t.tree) schema.tables

-- The rows of one tree are now these, and those of the other tables stay.
pub record SetsRows (schema : Schema) (tree : ℕ) (rows : List Row) (old new : Database) : Type 0 where
  pub schema_is : new.schema ≡ schema
  pub rows_are : new.trees tree ≡ rows
  pub others : AreOthersKept schema tree old.trees new.trees

-- each column takes its value as it is
abbrev pub AreTaken : List Column → Row → Type 0
AreTaken [] [] = Unit {0}
AreTaken [] (v ∷ vs) = ⊥
AreTaken (c ∷ cs) [] = ⊥
AreTaken (c ∷ cs) (v ∷ vs) = (cast c.kind v ≡ v) × AreTaken cs vs

-- Where these two statements have put a row of this id and these columns, it stands in the tree of the table, among the rows of other ids.
abbrev pub PutsRow : Table → List ℕ → List ℕ → ℕ → Row → Type 0
PutsRow table update insert id columns =
    (db after : Database) (rows : List (ℕ × Row)) → AreTaken (drop 1 table.columns) columns → Stands table.tree rows db
    → IsPutBy update insert (Int (pos id) ∷ columns) db after
    → SetsRows schema_1 table.tree (put_row (row_standing (id, columns)) (map row_standing (without_id id rows))) db after

-- Where this statement has run with an id, the rows of the other ids are left in the tree of the table.
abbrev pub TakesRowOut : Table → List ℕ → Type 0
TakesRowOut table text =
    (db after : Database) (rows : List (ℕ × Row)) (id count : ℕ) → Stands table.tree rows db → HasRun text (Int (pos id) ∷ []) count db after
    → SetsRows schema_1 table.tree (map row_standing (without_id id rows)) db after

-- Where this statement has run, no row is left in the tree of the table.
abbrev pub TakesAllOut : Table → List ℕ → Type 0
TakesAllOut table text =
    (db after : Database) (rows : List (ℕ × Row)) (count : ℕ) → Stands table.tree rows db → HasRun text [] count db after
    → SetsRows schema_1 table.tree [] db after
