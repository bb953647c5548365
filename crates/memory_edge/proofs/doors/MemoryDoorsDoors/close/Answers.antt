use Rattle.std.proofs.Common.{refl}
use Rattle.memory_edge.proofs.Each.{told_each}
use Rattle.memory_edge.proofs.doors.MemoryDoorsDoors.close.Goals as goal

pub returns-clause-coming : goal.returns-clause-coming
returns-clause-coming c = told_each _ _ (λ x. refl) c.args.doors.items

pub returns-clause-finished : goal.returns-clause-finished
returns-clause-finished c = told_each _ _ (λ x. refl) c.args.doors.items
