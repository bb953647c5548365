use Rattle.store_reads.proofs.OursLemmas.{pending_ours}
use Rattle.store_reads.proofs.loaded.PendingLoaded.cells_are_of_ours.Goals as goal

pub returns : goal.returns
returns c = record { ours = pending_ours }
