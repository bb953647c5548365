use Rattle.netmap_client.proofs.Folding.{views_are_folds}
use Rattle.netmap_client.proofs.laws.views_are_folds.Goals as goal

pub returns : goal.returns
returns c = record { folded = views_are_folds }
