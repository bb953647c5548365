use denote.Param.Send.{sendable}
use Rattle.test_store.proofs.files.is_opened_once.Goals as goal
use Rattle.keeper_sqlite.proofs.Sent.{host_send}

pub has_one_opener-requires-send-O-Keeper : goal.has_one_opener-requires-send-O-Keeper
has_one_opener-requires-send-O-Keeper c κs = search (sendable, host_send)
