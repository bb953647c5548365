use Rattle.store_reads.proofs.OursLemmas.{user_ours}
use Rattle.store_reads.proofs.loaded.UserLoaded.cells_are_of_ours.Goals as goal

pub returns : goal.returns
returns c = record { ours = user_ours }
