-- What is counted and told of the host's keeper.
use Rattle.std.specs.Prelude.{ℕ, Bool, true, false, Option}
use Rattle.net_rows.specs.declared.rows.Rows.{Rows}
use Rattle.sqlite.specs.Files.{file_state}
use Rattle.sqlite.specs.Held.{state}
use Rattle.sqlite.specs.Steps.{over_memory}
use Rattle.store_loads.specs.Told.{store_tells}
use Rattle.keeper_sqlite.specs.Left.{MayBeFound}
use Rattle.keeper_sqlite.specs.declared.host_keeper.HostKeeper.{HostKeeper}
use Rattle.keeper_sqlite.specs.declared.host_keeper.HostKeeper.TheVariants.{Memory, File}

-- how often a call has failed, whatever the store
abbrev pub faults_of : HostKeeper → ℕ
faults_of (Memory k) = k.faults
faults_of (File k) = k.faults

-- how often it was called
abbrev pub calls_of : HostKeeper → ℕ
calls_of (Memory k) = k.calls
calls_of (File k) = k.calls

-- whether its database is in memory, where it is lost with the keeper
abbrev pub is_in_memory : HostKeeper → Bool
is_in_memory (Memory k) = true
is_in_memory (File k) = false

-- what it tells
abbrev pub told_of : HostKeeper → Option Rows
told_of (Memory k) = store_tells (state over_memory k.conn)
told_of (File k) = store_tells (file_state k.conn)

-- whether its disk has returned all that was written, as far as it could see
abbrev pub is_clean_of : HostKeeper → Bool
is_clean_of (Memory k) = (state over_memory k.conn).is_clean
is_clean_of (File k) = (file_state k.conn).is_clean

-- what an open after a crash at this moment may find
abbrev pub may_leave_of : HostKeeper → Option Rows → Type 0
may_leave_of (Memory k) found = MayBeFound (state over_memory k.conn) found
may_leave_of (File k) found = MayBeFound (file_state k.conn) found
