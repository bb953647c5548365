-- What an error of the store means to whoever asked.
use Rattle.sqlite.specs.declared.error.Error.{Error}
use Rattle.sqlite.specs.declared.error.Error.TheVariants.{SqliteFailure}
use Rattle.sqlite.specs.declared.error.ErrorCode.TheVariants.{OutOfMemory}
use Rattle.store_commits.specs.declared.fault.Fault.{Fault}
use Rattle.store_commits.specs.declared.fault.Fault.TheVariants as fault

-- Memory was refused, or else a statement failed.
abbrev pub meaning_of : Error → Fault
meaning_of (SqliteFailure OutOfMemory) = fault.NoMemory
meaning_of _ = fault.Failed
