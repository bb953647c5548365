-- The status of how a run ended, and its number.
use Rattle.std.specs.Prelude.{ℕ}
use Rattle.exit_status.specs.declared.closed.Closed.TheVariants as closed
use Rattle.exit_status.specs.declared.ended.Ended.{Ended}
use Rattle.exit_status.specs.declared.ended.Ended.TheVariants as ended
use Rattle.exit_status.specs.declared.status.Status.{Status}
use Rattle.exit_status.specs.declared.status.Status.TheVariants as status

-- the status of how a run ended
abbrev pub status_of : Ended → Status
status_of (ended.Closed closed.End) = status.Ok
status_of (ended.Closed closed.Early) = status.Early
status_of (ended.Closed closed.ReadFault) = status.ReadFault
status_of (ended.Closed closed.WriteFault) = status.WriteFault
status_of (ended.Closed closed.NoMemory) = status.NoMemory
status_of (ended.Settings rule key) = status.Settings
status_of ended.TooLarge = status.Settings
status_of ended.FileFault = status.ReadFault
status_of ended.KeeperFault = status.KeeperFault
status_of (ended.Damaged kind id) = status.Damaged
status_of ended.NoMemory = status.NoMemory

-- the number that the program ends with
abbrev pub number_of : Status → ℕ
number_of status.Ok = 0
number_of status.Early = 1
number_of status.Usage = 2
number_of status.Settings = 3
number_of status.ReadFault = 4
number_of status.WriteFault = 5
number_of status.KeeperFault = 6
number_of status.Damaged = 7
number_of status.NoMemory = 8
number_of status.DoorFault = 9
number_of status.Refused = 10
number_of status.EntropyFault = 11
