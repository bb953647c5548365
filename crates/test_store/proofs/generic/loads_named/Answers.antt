use denote.Param.Send.{sendable}
use Rattle.test_store.proofs.generic.loads_named.Goals as goal
use Rattle.keeper_sqlite.proofs.Sent.{host_send}

pub loads-requires-send-O-Keeper : goal.loads-requires-send-O-Keeper
loads-requires-send-O-Keeper c κs = search (sendable, host_send)
