use Rattle.map_delta.proofs.FirstLaws.{anew_law, first_law}
use Rattle.map_delta.proofs.laws.first_responses_are_whole_maps.Goals as goal

pub returns : goal.returns
returns c = record { first = first_law; anew = anew_law }
