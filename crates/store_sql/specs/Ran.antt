-- What it is that a statement has run: in terms of the database before it and behind it.
use Rattle.std.specs.Prelude.{◌≡◌, ◌⊎◌, ◌<◌, ℕ, List, Option, None, Ok, unwrap_or}
use Rattle.sqlite_value.specs.Order.{Row}
use Rattle.sqlite_schema.specs.declared.command.Command.{Command}
use Rattle.sqlite.specs.declared.run.Mode.{Mode}
use Rattle.sqlite.specs.Calls.{IsWrite}
use Rattle.sqlite.specs.Does.{Tally, Does}
use Rattle.sqlite.specs.Effect.{Database}
use Rattle.sqlite.specs.Given.{IsPlain}
use Rattle.sqlite.specs.Listing.{understood}
use Rattle.sqlite.proofs.Callers.{command_of, statement_of}

-- the command made the new database of the old one, and changed so many rows
pub record HasWritten (command : Command) (words : List ℕ) (params : Row) (count : ℕ) (old new : Database) : Type 0 where
  pub limit : Option ℕ
  pub mode : Mode
  pub tally : Tally
  pub changed : Does limit mode params old words None command (Ok (tally, new))
  pub counted : count ≡ unwrap_or tally.rows 0

-- The statement ran to its end with these parameters, if it is one that writes rows or tables.
abbrev pub HasRun : List ℕ → Row → ℕ → Database → Database → Type 0
HasRun text params count old new =
    IsPlain (understood old.schema text) → IsWrite (command_of (understood old.schema text))
    → HasWritten (command_of (understood old.schema text)) (statement_of text (understood old.schema text)) params count old new

-- One statement replaced rows, or it found none, and then the other one ran.
abbrev pub IsPutBy : List ℕ → List ℕ → Row → Database → Database → Type 0
IsPutBy update insert params old new =
    ((count : ℕ) × (0 < count) × HasRun update params count old new)
    ⊎ ((mid : Database) × (count : ℕ) × HasRun update params 0 old mid × HasRun insert params count mid new)
