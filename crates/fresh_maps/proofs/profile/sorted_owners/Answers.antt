use Rattle.std.proofs.Common.{◌∷◌}
use Rattle.fresh_maps.proofs.OwnerLemmas.{permuted_owners}
use Rattle.fresh_maps.proofs.profile.sorted_owners.Goals as goal

pub returns : goal.returns
returns c = record {
  listed = permuted_owners (c.args.node.now ∷ c.args.peers.now) c.in_ok-ids.ids.items c.sort_unstable.new.self.items c.in_ok-ids.ensures.value c.sort_unstable.ensures.permutation;
}
