-- Why a reading fails, other than for memory.
use Rattle.std.specs.Prelude.{◌≡◌, ◌⊎◌, ℕ, true, false, List, [], Result, Ok, Err, IfErr, IsSome, ⊤}
use Rattle.row_keeper.specs.declared.keeper.LoadFault.{LoadFault}
use Rattle.row_keeper.specs.declared.keeper.LoadFault.TheVariants.{Failed, Damaged, NoMemory}
use Rattle.sqlite.specs.Listing.{understood}
use Rattle.sqlite.specs.State.{HasCleanDisk, State}
use Rattle.sqlite_disk.specs.Disk.{MoreFaults}
use Rattle.sqlite_resolve.specs.declared.compiled.Compiled.{Compiled}
use Rattle.sqlite_resolve.specs.declared.error.CompileError.{CompileError}
use Rattle.sqlite_schema.specs.declared.command.Command.TheVariants.{Select}
use Rattle.sqlite_sql.specs.Term.{Term}
use Rattle.sqlite_typing.specs.Types.{accepts_program}
use Rattle.store_commits.specs.declared.fault.Fault.{Fault}
use Rattle.store_commits.specs.declared.fault.Fault.TheVariants as fault
use Rattle.store_sql.specs.Commands.{all_by_id}
use Rattle.store_sql.specs.Means.{Means}
use Rattle.store_sql.specs.Schema.{schema_1}

-- The disk has failed, the store was shut before, or the connection limits the steps of a statement.
abbrev pub HasCause : State → State → Type 0
HasCause old new = MoreFaults old.faults new.faults ⊎ ((old.is_open ≡ false) ⊎ IsSome old.step_limit)

-- A load that answers Failed does so for this. Of its other faults nothing is said.
abbrev pub FailsOnlyFor : Type 0 → LoadFault → Type 0
FailsOnlyFor P Failed = P
FailsOnlyFor P (Damaged kind id) = ⊤
FailsOnlyFor P NoMemory = ⊤

-- What a fault of the store is to a load.
abbrev pub load_fault_of : Fault → LoadFault
load_fault_of fault.Failed = Failed
load_fault_of fault.NoMemory = NoMemory

-- Over our tables a reading fails for a cause alone.
abbrev pub IsCaused : {X : Type 0} → State → State → Result X LoadFault → Type 0
IsCaused old new result = HasCleanDisk new → old.now.schema ≡ schema_1 → IfErr result (FailsOnlyFor (HasCause old new))

-- It has no parameter.
abbrev pub TakesNone : Result Compiled CompileError → Type 0
TakesNone (Ok c) = c.names ≡ []
TakesNone (Err e) = ⊥

-- The text shows columns of a table of ours, by the ids of its rows.
pub record ListsOurs (text : List ℕ) : Type 0 where
  pub tree : ℕ
  pub columns : List Term
  pub names : List (List ℕ)
  pub means : Means text (Select (record { lets = []; body = all_by_id tree columns }) names)
  pub bare : TakesNone (understood schema_1 text)
  pub typed : accepts_program schema_1 [] (all_by_id tree columns) [] ≡ true
