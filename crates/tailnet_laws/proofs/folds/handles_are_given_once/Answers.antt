use Rattle.tailnet_laws.proofs.Handles.{given_once}
use Rattle.tailnet_laws.proofs.folds.handles_are_given_once.Goals as goal

pub returns : goal.returns
returns c = record { once = given_once }
