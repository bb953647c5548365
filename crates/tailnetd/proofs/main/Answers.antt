use denote.Param.Send.{sendable}
use Rattle.tailnetd.proofs.main.Goals as goal
use Rattle.keeper_sqlite.proofs.Sent.{host_send}

pub tailnetd-status-requires-send-P-Keeper : goal.tailnetd-status-requires-send-P-Keeper
tailnetd-status-requires-send-P-Keeper c κs = search (sendable, host_send)
