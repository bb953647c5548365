use Rattle.std.proofs.Common.{◌≡◌, ◌++◌, drop}
use Rattle.std.specs.Option.{option_copied}
use Rattle.std.specs.Prelude.{filter}
use Rattle.policy_sites.specs.Approvals.{is_approved}
use Rattle.policy_sites.proofs.approvals.approved_among.Given as goal

-- with the approved ones of the routes to come these are all
abbrev pub invariant-loop-route : goal.invariant-loop-route
invariant-loop-route l =
    l.out ++ filter (is_approved (option_copied l.policy) l.login l.machine) (drop l.route-index l.machine.routes)
    ≡ filter (is_approved (option_copied l.policy) l.login l.machine) l.machine.routes
