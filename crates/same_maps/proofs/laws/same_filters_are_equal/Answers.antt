use Rattle.same_maps.proofs.FilterLemmas.{same_filters}
use Rattle.same_maps.proofs.laws.same_filters_are_equal.Goals as goal

pub returns : goal.returns
returns c = record { filters = same_filters }
