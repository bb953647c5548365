use Rattle.byte_laws.proofs.Folded.{folds}
use Rattle.byte_laws.proofs.polls.clients_fold_what_they_read.Goals as goal

pub returns : goal.returns
returns c = record { folds = folds }
