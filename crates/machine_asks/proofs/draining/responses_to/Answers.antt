use Rattle.std.proofs.Common.{◌≤◌, List, length, subst, sym}
use Rattle.tailcfg.specs.declared.response.Response.{Response}
use Rattle.machine_asks.proofs.Drains.{few_responses}
use Rattle.machine_asks.proofs.draining.responses_to.Goals as goal

pub returns-clause-few : goal.returns-clause-few
returns-clause-few c =
    let x = c.args.session.now in
    subst (λ (made : List Response). length made ≤ 2) (sym c.in_ok-made.ensures.value) (few_responses x.handle x.seq _ c.args.view.now)
