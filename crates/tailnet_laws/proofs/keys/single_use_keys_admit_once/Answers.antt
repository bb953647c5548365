use Rattle.tailnet_laws.proofs.SpentKeys.{admits_once}
use Rattle.tailnet_laws.proofs.keys.single_use_keys_admit_once.Goals as goal

pub returns : goal.returns
returns c = record { once = admits_once }
