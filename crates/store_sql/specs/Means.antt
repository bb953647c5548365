-- What a statement's text is in a database with the tables of schema 1.
use Rattle.std.specs.Prelude.{◌≡◌, ℕ, Bool, true, false, List, length, nat_le, Result, Ok, Err}
use Rattle.sqlite.specs.Given.{IsPlain}
use Rattle.sqlite.specs.Listing.{reads_listing, understood}
use Rattle.sqlite.proofs.Callers.{command_of}
use Rattle.sqlite_resolve.specs.declared.compiled.Compiled.{Compiled}
use Rattle.sqlite_resolve.specs.declared.error.CompileError.{CompileError}
use Rattle.sqlite_schema.specs.declared.command.Command.{Command}
use Rattle.store_sql.specs.Schema.{schema_1}

-- the text was understood to its end: no second statement stands behind the first
abbrev pub is_whole : List ℕ → Result Compiled CompileError → Bool
is_whole text (Ok c) = nat_le (length text) c.tail
is_whole text (Err e) = false

-- The text is this command and nothing else, and doesn't ask for the list of tables.
pub record Means (text : List ℕ) (command : Command) : Type 0 where
  pub command_is : command_of (understood schema_1 text) ≡ command
  pub whole : is_whole text (understood schema_1 text) ≡ true
  pub plain : IsPlain (understood schema_1 text)
  pub no_listing : reads_listing schema_1 text ≡ false
