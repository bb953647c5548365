use Rattle.map_delta.proofs.DeltaLaws.{delta_law, nothing_sent}
use Rattle.map_delta.proofs.laws.deltas_bring_new_maps.Goals as goal

pub returns : goal.returns
returns c = record { folds = delta_law; none = nothing_sent }
