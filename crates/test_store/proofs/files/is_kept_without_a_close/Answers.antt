use denote.Param.Send.{sendable}
use Rattle.test_store.proofs.files.is_kept_without_a_close.Goals as goal
use Rattle.keeper_sqlite.proofs.Sent.{host_send}

pub keep_and_drop-requires-send-O-Keeper : goal.keep_and_drop-requires-send-O-Keeper
keep_and_drop-requires-send-O-Keeper c κs = search (sendable, host_send)

pub reads-requires-send-O-Keeper : goal.reads-requires-send-O-Keeper
reads-requires-send-O-Keeper c κs = search (sendable, host_send)
