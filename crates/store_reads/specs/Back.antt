-- What was read stands in the trees: nothing is read that the database doesn't keep.
use Rattle.std.specs.Prelude.{◌≡◌, ℕ, true, List, [], ◌∷◌, ◌++◌, map, Option, IfSome}
use Rattle.std.specs.List.{AllByRecursion}
use Rattle.std.specs.Str.{is_utf8}
use Rattle.net_rows.specs.declared.change.Counters.{Counters}
use Rattle.sqlite.specs.Effect.{Database, IsDatabase}
use Rattle.sqlite_value.specs.Order.{Row}
use Rattle.store_commits.specs.Kept.{HoldsInTree, placed_rows, policy_row, tree_row}
use Rattle.store_rows.specs.Readable.{IsReadable, IsReadableExtra}
use Rattle.store_rows.specs.Rows.{IsTypedCounters, extra_cells, meta_cells}
use Rattle.store_rows.specs.declared.cell.Cell.{Cell}
use Rattle.store_rows.specs.declared.cell.Cell.TheVariants.{Null, Number, Text, Blob, Other}
use Rattle.store_sql.specs.Schema.{schema_1}
use Rattle.store_reads.specs.Readable.{shown_row}
use Rattle.tailcfg.specs.declared.dns.DnsExtra.{DnsExtra}

-- a cell that a row of ours may have
abbrev pub IsOfOurs : Cell → Type 0
IsOfOurs Null = Unit {0}
IsOfOurs (Number n) = Unit {0}
IsOfOurs (Text bytes) = Unit {0}
IsOfOurs (Blob bytes) = Unit {0}
IsOfOurs Other = ⊥

-- The row shows a readable value, which was added.
pub record IsRowTaken {T : Type 0} (cells : T → List Cell) (Typed : T → Type 0) (row : Row) (old new : List T) : Type 0 where
  pub it : T
  pub shows : row ≡ shown_row (cells it)
  pub readable : IsReadable cells Typed it
  pub added : new ≡ old ++ it ∷ []

-- The same of the extra record of a place.
pub record IsTakenExtra (place : ℕ) (row : Row) (old new : List DnsExtra) : Type 0 where
  pub it : DnsExtra
  pub shows : row ≡ shown_row (extra_cells place it)
  pub readable : IsReadableExtra it
  pub added : new ≡ old ++ it ∷ []

-- The database has the tables of schema 1, and obeys it.
pub record IsOurs (db : Database) : Type 0 where
  pub schema : db.schema ≡ schema_1
  pub obeys : IsDatabase db

-- The tree holds these rows, and all of them are readable.
abbrev pub HoldsReadable : {T : Type 0} → (T → List Cell) → (T → Type 0) → List Row → List T → Type 0
HoldsReadable cells Typed tree xs = HoldsInTree tree (map (λ x. tree_row (cells x)) xs) × AllByRecursion (IsReadable cells Typed) xs

-- The same of the extra records, at their places, ..
abbrev pub HoldsExtras : List Row → List DnsExtra → Type 0
HoldsExtras tree xs = HoldsInTree tree (placed_rows 1 xs) × AllByRecursion IsReadableExtra xs

-- .. of the policy ..
abbrev pub HoldsPolicy : List Row → Option (List ℕ) → Type 0
HoldsPolicy tree policy = (tree ≡ policy_row policy) × IfSome policy (λ body. is_utf8 body ≡ true)

-- .. and of the counters.
abbrev pub HoldsNext : List Row → Counters → Type 0
HoldsNext tree next = (tree ≡ tree_row (meta_cells next) ∷ []) × IsTypedCounters next
