use Rattle.std.proofs.Common.{◌∷◌, ◌∙◌, ap, subst}
use Rattle.std.specs.Prelude.{codes}
use Rattle.json.specs.Token.{key}
use Rattle.wire_write.specs.Routes.{behind}
use Rattle.wire_write.specs.Tokens.{Adds, data_tokens}
use Rattle.wire_write.proofs.TokenLemmas.{opened, then}
use Rattle.wire_write.proofs.RouteLemmas.{sorted_members}
use Rattle.wire_write.proofs.routes.write_route_list.Goals as goal

pub returns : goal.returns
returns c = record {
  adds = subst (λ d. Adds (key (codes "Routes") ∷ data_tokens d) c.args.out.now c.write_members.new.out) (sorted_members c.args.routes.now c.as_slice.result.now (ap behind c.as_slice.ensures.value ∙ c.in_ok-sorted.ensures.value)) (then c.in_ok-write_name.ensures.adds (opened _ c.in_ok-begin_object.ensures.adds c.in_ok-write_members.ensures.adds));
}
