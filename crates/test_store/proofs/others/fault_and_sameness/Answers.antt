use denote.Param.Send.{sendable}
use Rattle.test_store.proofs.others.fault_and_sameness.Goals as goal
use Rattle.keeper_sqlite.proofs.Sent.{host_send}

pub fault_of_load-requires-send-O-Keeper : goal.fault_of_load-requires-send-O-Keeper
fault_of_load-requires-send-O-Keeper c κs = search (sendable, host_send)
