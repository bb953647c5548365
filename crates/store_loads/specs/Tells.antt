-- What it is that a database keeps tables which can be loaded.
use Rattle.std.specs.Prelude.{◌≡◌, ◌⊎◌, [], IsTrue, None, Ok}
use Rattle.net_rows.specs.Damage.{damage}
use Rattle.net_rows.specs.Rows.{empty_rows}
use Rattle.net_rows.specs.declared.rows.Rows.{Rows}
use Rattle.sqlite.specs.Effect.{Database, Reads}
use Rattle.sqlite.specs.Listing.{IsSourceOf, reads_listing, understood}
use Rattle.sqlite.specs.State.{HasCleanDisk, State}
use Rattle.sqlite_resolve.specs.declared.compiled.Compiled.{Compiled}
use Rattle.sqlite_value.specs.Order.{Row}
use Rattle.store_commits.specs.Kept.{Keeps}
use Rattle.store_reads.specs.Readable.{AreReadable}
use Rattle.store_sql.specs.Schema.{no_schema}
use Rattle.store_sql.specs.declared.texts.TheConstants.{SELECT_SCHEMA}

-- The database keeps these rows, which are read again and break no rule.
pub record Holds (db : Database) (rows : Rows) : Type 0 where
  pub keeps : Keeps db rows
  pub readable : AreReadable rows
  pub sound : damage rows ≡ None

-- As long as it is clean and open, the store keeps such rows.
abbrev pub IsKnown : State → Type 0
IsKnown s = HasCleanDisk s → IsTrue s.is_open → (rows : Rows) × Holds s.now rows

-- Outside a transaction what is shown is what was committed.
abbrev pub IsAtRest : State → Type 0
IsAtRest s = IsTrue s.is_open → s.now ≡ s.committed

-- Asked for the names of all that it has, also of what isn't read here, the database shows none.
pub record ListsNothing (db : Database) : Type 0 where
  pub query : Compiled
  pub is : understood db.schema SELECT_SCHEMA.now ≡ Ok query
  pub listing : Database
  pub source : IsSourceOf (reads_listing db.schema SELECT_SCHEMA.now) db listing
  pub params : Row
  pub shows : Reads query.command listing params []

-- Tables stand where there were none only if the database listed nothing at all.
abbrev pub IsSpared : State → State → Type 0
IsSpared old new = (new.now.schema ≡ no_schema) ⊎ ListsNothing old.now

-- What was empty is empty still, or has our tables with the first counters, and listed nothing; and only what was open is open.
pub record IsFirst (old new : State) : Type 0 where
  pub was_open : IsTrue old.is_open
  pub shows : (new.now.schema ≡ no_schema) ⊎ Keeps new.now empty_rows
  pub spared : IsSpared old new
