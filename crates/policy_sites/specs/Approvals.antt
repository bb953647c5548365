-- Which routes of a machine are approved, and which machine is an exit node. The login is that of the
-- machine's user.
use Rattle.std.specs.Prelude.{◌&&◌, ◌||◌, ℕ, Bool, false, not, List, Option, Some, None, filter}
use Rattle.std.specs.List.{list_any}
use Rattle.net_addr.specs.Bits.{Block}
use Rattle.net_addr.specs.Blocks.{is_within}
use Rattle.net_addr.specs.Routes.{sorted_routes}
use Rattle.net_rows.specs.declared.machine.Machine.{Machine}
use Rattle.policy_rows.specs.Named.{is_named}
use Rattle.policy_rows.specs.declared.approver.Approver.{Approver}
use Rattle.policy_rows.specs.declared.group.Group.{Group}
use Rattle.policy_rows.specs.declared.policy.Policy.{Policy}
use Rattle.policy_rows.specs.declared.selector.Selector.{Selector}
use Rattle.policy_sites.specs.Exits.{both_exits, has_route, is_exit_route}
use Rattle.policy_sites.specs.Tailnets.{overlaps_tailnet}

-- one of the selectors names the machine: by its tags, or, if it has none, by its user
abbrev pub some_named : List Group → List Selector → List ℕ → Machine → Bool
some_named groups selectors login m = list_any (λ selector. is_named groups selector login m.tags) selectors

-- the route is the approver's prefix or lies inside it, and the approver names the machine
abbrev pub approves : List Group → List ℕ → Machine → Block → Approver → Bool
approves groups login m r approver = is_within r approver.route && some_named groups approver.by login m

-- some approver of the policy does
abbrev pub some_approver : Option Policy → List ℕ → Machine → Block → Bool
some_approver None login m r = false
some_approver (Some policy) login m r = list_any (approves policy.groups login m r) policy.route_approvers

-- The route is approved: it is no exit route, has no address of tailnets, and the operator approved it,
-- or some approver does. Whether the machine advertises it isn't asked here.
abbrev pub is_approved : Option Policy → List ℕ → Machine → Block → Bool
is_approved policy login m r =
    not (is_exit_route r) && not (overlaps_tailnet r) && (has_route m.approved r || some_approver policy login m r)

-- The approved routes of a machine: those of the routes that it advertises now, in order, each once.
abbrev pub approved_of : Option Policy → List ℕ → Machine → List Block
approved_of policy login m = sorted_routes (filter (is_approved policy login m) m.routes)

-- an exit approver of the policy names the machine
abbrev pub some_exit_approver : Option Policy → List ℕ → Machine → Bool
some_exit_approver None login m = false
some_exit_approver (Some policy) login m = some_named policy.groups policy.exit_approvers login m

-- The machine is an exit node: it advertises both exit routes, and the operator approved both, or an
-- exit approver names it.
abbrev pub is_exit : Option Policy → List ℕ → Machine → Bool
is_exit policy login m = both_exits m.routes && (both_exits m.approved || some_exit_approver policy login m)
