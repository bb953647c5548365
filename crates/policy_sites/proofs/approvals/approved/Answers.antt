use Rattle.std.proofs.Common.{◌≡◌, List, subst, sym}
use Rattle.std.specs.List.Sorted.{IsStrictlySortedBy}
use Rattle.std.proofs.lemmas.Result.{IfOk-weaker}
use Rattle.net_addr.specs.Bits.{Block}
use Rattle.net_addr.specs.Routes.{route_cmp, sorted_routes}
use Rattle.policy_sites.proofs.approvals.approved.Goals as goal

pub returns-clause-rises : goal.returns-clause-rises
returns-clause-rises c =
    let given = c.as_slice.result.now in
    IfOk-weaker c.sorted_routes.result (λ (made : List Block). made ≡ sorted_routes given) (λ (made : List Block). IsStrictlySortedBy route_cmp made)
    (λ made is. subst (λ (routes : List Block). IsStrictlySortedBy route_cmp routes) (sym is) (c.sorted_routes_rise.ensures.rise given))
    c.sorted_routes.ensures.value
