use Rattle.fresh_maps.proofs.FilterLemmas.{map_admits}
use Rattle.fresh_maps.proofs.IsolationLemmas.{map_isolated}
use Rattle.fresh_maps.proofs.OrderLemmas.{map_in_order}
use Rattle.fresh_maps.proofs.laws.maps_of_sound_tables.Goals as goal

pub returns : goal.returns
returns c = record { order = map_in_order; admits = map_admits; isolated = map_isolated }
