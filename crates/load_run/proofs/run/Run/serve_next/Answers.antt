use Rattle.std.proofs.Common.{arith}
use Rattle.load_run.proofs.Stepping.{message_some}
use Rattle.load_run.proofs.run.Run.serve_next.Goals as goal

pub serve_task-requires-clause-some : goal.serve_task-requires-clause-some
serve_task-requires-clause-some g c = rw c.in-Ok.ensures.value (message_some c.task_at-task.result c.of.result.now)

pub serve_task-requires-clause-room : goal.serve_task-requires-clause-room
serve_task-requires-clause-room g c = rw c.in-Ok-listen.ensures.value (omega (arith, c.requires.ready.sum, c.requires.within, c.requires.few))
