use Rattle.store_reads.proofs.OursLemmas.{auth_key_ours}
use Rattle.store_reads.proofs.loaded.AuthKeyLoaded.cells_are_of_ours.Goals as goal

pub returns : goal.returns
returns c = record { ours = auth_key_ours }
