use denote.Param.Send.{sendable}
use Rattle.test_store.proofs.others.fails.Goals as goal
use Rattle.keeper_sqlite.proofs.Sent.{host_send}

pub fails_by-requires-send-O-Keeper : goal.fails_by-requires-send-O-Keeper
fails_by-requires-send-O-Keeper c κs = search (sendable, host_send)
