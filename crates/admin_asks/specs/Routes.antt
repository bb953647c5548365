-- Operators approve routes of machines.
use Rattle.std.specs.Prelude.{ℕ, Bool, List, [], ◌∷◌, Result, Ok, filter, ◌&&◌, ◌||◌, if◌then◌else◌}
use Rattle.std.specs.Cmp.Lexicographic.{pointwise}
use Rattle.tail_base.specs.Steps.{◌>>=◌, or_fault, refuse_if, refuse_unless}
use Rattle.net_addr.specs.Bits.{Block}
use Rattle.net_addr.specs.Routes.{sorted_routes}
use Rattle.net_rows.specs.Rows.{machine_with}
use Rattle.net_rows.specs.declared.machine.Machine.{Machine}
use Rattle.policy_sites.specs.Exits.{both_exits, exit_v4, exit_v6, has_route, is_exit_route}
use Rattle.policy_sites.specs.Tailnets.{overlaps_tailnet}
use Rattle.desk_state.specs.State.{State}
use Rattle.desk_state.specs.declared.decision.Decision.{Decision}
use Rattle.desk_state.specs.declared.refusal.Refusal.{Refusal}
use Rattle.desk_state.specs.declared.refusal.Refusal.TheVariants.{RouteNotAdvertised, RouteOverlaps, UnknownMachine}
use Rattle.desk_state.specs.Same.{prefix_eq}
use Rattle.admin_asks.specs.Nodes.{changed_node, same_node}
use Rattle.admin_asks.specs.declared.operator_answer.OperatorAnswer.{OperatorAnswer}

-- an exit route may be approved where both are advertised
abbrev pub exit_approvable : List Block → Result (Unit {0}) Refusal
exit_approvable advertised = refuse_unless (both_exits advertised) RouteNotAdvertised

-- any other where it is advertised, and then has no address of tailnets
abbrev pub subnet_approvable : List Block → Block → Result (Unit {0}) Refusal
subnet_approvable advertised r = do
  there ← refuse_unless (has_route advertised r) RouteNotAdvertised
  refuse_if (overlaps_tailnet r) RouteOverlaps

abbrev pub route_approvable : List Block → Block → Result (Unit {0}) Refusal
route_approvable advertised r = if is_exit_route r then exit_approvable advertised else subnet_approvable advertised r

-- each of the given routes may be, tried in their order
abbrev pub routes_approvable : List Block → List Block → Result (Unit {0}) Refusal
routes_approvable advertised [] = Ok tt
routes_approvable advertised (r ∷ rs) = route_approvable advertised r >>= (λ _. routes_approvable advertised rs)

-- one of the exit routes is among the routes
abbrev pub some_exit : List Block → Bool
some_exit routes = has_route routes exit_v4 || has_route routes exit_v6

-- the route was given, or it is an exit route and one of them was
abbrev pub is_chosen : List Block → Block → Bool
is_chosen given r = has_route given r || is_exit_route r && some_exit given

-- What is kept: of the advertised routes those that were given, with both exit routes where one was, in order and
-- each once.
abbrev pub kept_routes : List Block → List Block → List Block
kept_routes advertised given = sorted_routes (filter (is_chosen given) advertised)

-- a machine whose approvals are these already stays as it is
abbrev pub routed_node : State → Machine → List Block → Decision OperatorAnswer
routed_node s m routes = if pointwise prefix_eq m.approved routes then same_node s m else changed_node s (record m { approved = routes })

-- these are approved in place of those that were
abbrev pub set_routes : State → ℕ → List Block → Result (Decision OperatorAnswer) Refusal
set_routes s id routes = do
  machine ← or_fault UnknownMachine (machine_with s.rows.machines id)
  approvable ← routes_approvable machine.routes routes
  Ok (routed_node s machine (kept_routes machine.routes routes))
