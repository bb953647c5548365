use Rattle.store_reads.proofs.OursLemmas.{machine_ours}
use Rattle.store_reads.proofs.loaded.MachineLoaded.cells_are_of_ours.Goals as goal

pub returns : goal.returns
returns c = record { ours = machine_ours }
