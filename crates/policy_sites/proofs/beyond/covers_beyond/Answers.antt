use Rattle.std.proofs.Common.{◌∙◌, sym}
use Rattle.policy_sites.proofs.IntoLemmas.{by_exit, by_route}
use Rattle.policy_sites.proofs.beyond.covers_beyond.Goals as goal

pub returns-then-covers_some_route : goal.returns-then-covers_some_route
returns-then-covers_some_route c = record { value = c.if-covers_some_route.true ∙ by_route c.args.site.now c.args.selector.now (sym c.covers_some_route.ensures.value ∙ c.if-covers_some_route.true) }

pub returns-else-covers_some_route : goal.returns-else-covers_some_route
returns-else-covers_some_route c = record {
  value = c.covers_by_exit.ensures.value ∙ by_exit c.args.site.now c.args.selector.now (sym c.covers_some_route.ensures.value ∙ c.if-covers_some_route.false);
}
