use Rattle.std.proofs.Common.{ap, ◌∙◌}
use Rattle.policy_sites.specs.Sites.{is_listed}
use Rattle.policy_sites.proofs.IdLemmas.{found_by_halves}
use Rattle.policy_sites.proofs.id_list.IdList.has.Goals as goal

pub returns-then-self : goal.returns-then-self
returns-then-self c = record {
  value = c.is_ok.ensures.value ∙ found_by_halves c.self.inside.ids.now c.args.id c.binary_search.result (c.self.invariant c.if-self.true) c.binary_search.ensures.bound c.binary_search.ensures.position ∙ ap (λ ids. is_listed ids c.args.id) c.self.view_is;
}
