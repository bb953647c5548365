-- What ran, from what the store says of a statement.
use Rattle.std.proofs.Common.{◌≡◌, ℕ, List, None, Ok, refl, sym, subst}
use Rattle.sqlite_value.specs.Order.{Row}
use Rattle.sqlite_schema.specs.declared.schema.Schema.{Schema}
use Rattle.sqlite_schema.specs.declared.command.Command.{Command}
use Rattle.sqlite_schema.specs.declared.command.Command.TheVariants.{Select, Insert, InsertOr, Update, Delete, CreateTable, CreateIndex, DropTable, DropIndex, Begin, Commit, Rollback, Savepoint, Release, RollbackTo, Nothing, CreateView, DropView, Rows}
use Rattle.sqlite.specs.Calls.{IsWrite}
use Rattle.sqlite.specs.Effect.{Database}
use Rattle.sqlite.specs.Listing.{understood}
use Rattle.sqlite.specs.State.{State, Runs, Writes, Executes, mode_of}
use Rattle.sqlite.proofs.Callers.{IsPlain, command_of, statement_of, runs_as}
use Rattle.store_sql.specs.Ran.{HasRun, HasWritten}

writes_rows : (old new : State) (command : Command) (words : List ℕ) (params : Row) (count : ℕ) → IsWrite command → Runs old new None command words params count → Writes old new None command words params count
writes_rows old new (Select q names) words params count is h = absurd is
writes_rows old new (Rows values width names) words params count is h = absurd is
writes_rows old new Begin words params count is h = absurd is
writes_rows old new Commit words params count is h = absurd is
writes_rows old new Rollback words params count is h = absurd is
writes_rows old new (Savepoint name) words params count is h = absurd is
writes_rows old new (Release name) words params count is h = absurd is
writes_rows old new (RollbackTo name) words params count is h = absurd is
writes_rows old new Nothing words params count is h = absurd is
writes_rows old new (Insert at from) words params count is h = h
writes_rows old new (InsertOr at way from clauses) words params count is h = h
writes_rows old new (Update at q) words params count is h = h
writes_rows old new (Delete at q) words params count is h = h
writes_rows old new CreateTable words params count is h = h
writes_rows old new (CreateIndex at) words params count is h = h
writes_rows old new (DropTable at) words params count is h = h
writes_rows old new (DropIndex at) words params count is h = h
writes_rows old new CreateView words params count is h = h
writes_rows old new (DropView at) words params count is h = h

-- a statement that the store has executed ran
pub ran_as_said : (text : List ℕ) (params : Row) (count : ℕ) (old new : State) → Executes text params old new (Ok count) → HasRun text params count old.now new.now
ran_as_said text params count old new h plain is =
    let command = command_of (understood old.now.schema text) in
    let words = statement_of text (understood old.now.schema text) in
    let w = writes_rows old new command words params count is (runs_as text params old new old.now.schema refl command refl plain count h) in
    record { limit = old.step_limit; mode = mode_of old; tally = w.tally; changed = w.changed; counted = w.counted }

-- of a schema and a command that are known
pub wrote_as : (text : List ℕ) (params : Row) (count : ℕ) (old new : Database) (schema : Schema) (command : Command) → old.schema ≡ schema → command_of (understood schema text) ≡ command
    → IsPlain (understood schema text) → IsWrite command → HasRun text params count old new → HasWritten command (statement_of text (understood schema text)) params count (record old { schema = schema }) new
wrote_as text params count old new schema command has is plain write ran =
    let known : HasRun text params count (record old { schema = schema }) new = subst (λ s. HasRun text params count (record old { schema = s }) new) has ran in
    let there = known plain (subst IsWrite (sym is) write) in
    subst (λ c. HasWritten c (statement_of text (understood schema text)) params count (record old { schema = schema }) new) is there
