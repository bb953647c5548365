use Rattle.same_maps.proofs.NodeLemmas.{same_nodes, same_profiles}
use Rattle.same_maps.proofs.laws.same_nodes_are_equal.Goals as goal

pub returns : goal.returns
returns c = record { nodes = same_nodes; profiles = same_profiles }
