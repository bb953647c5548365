use denote.Param.Send.{sendable}
use Rattle.test_program.proofs.reopened.run.Goals as goal
use Rattle.keeper_sqlite.proofs.Sent.{host_send}

pub top_over-requires-send-P-Keeper : goal.top_over-requires-send-P-Keeper
top_over-requires-send-P-Keeper c κs = search (sendable, host_send)
