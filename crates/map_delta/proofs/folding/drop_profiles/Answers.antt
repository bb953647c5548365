use Rattle.std.proofs.Common.{◌∷◌, rules}
use Rattle.std.proofs.lemmas.Fn.{filter_same}
use Rattle.tailcfg.specs.declared.profile.Profile.{Profile}
use Rattle.fresh_maps.specs.Profiles.{owns_any}
use Rattle.map_delta.proofs.folding.drop_profiles.Goals as goal

pub returns : goal.returns
returns c = record { value = filter_same _ (λ (p : Profile). owns_any (c.args.node.now ∷ c.args.peers.now) p.id) _ (λ x b f' k. search rules) _ _ c.retain.ensures.filtered }
