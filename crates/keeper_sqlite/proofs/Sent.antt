-- A host's keeper may cross threads: its store in memory may, and its store in a file.
use denote.Param.Send.{IsSend, sendable}
use denote.Param.SendFields.{variants_send}
use Rattle.keeper_sqlite.specs.contracts.host_keeper.HostKeeper.{the_row, enum}
use Rattle.keeper_sqlite.proofs.keeper.SqliteKeeper.TheSendSync as keeper
use Rattle.sqlite.proofs.MemStore.TheSendSync as memory
use Rattle.sqlite.proofs.FileStore.TheSendSync as store
use Rattle.sqlite.below.sqlite_disk.proofs.modelled.Modelled.TheSendSync as disk
use Rattle.sqlite.below.sqlite_std_file.specs.contracts.host.Host as Host

file_send : IsSend Host.the_row
file_send = search sendable depth 20

pub host_send : IsSend the_row
host_send = variants_send enum (
  (search (sendable, keeper.the_field_send, memory.the_send), tt),
  ((search (sendable, keeper.the_field_send, store.the_send, disk.the_send, file_send), tt), tt),
)
