use Rattle.policy_sites.proofs.FittingLemmas.{sites_go_on}
use Rattle.policy_sites.proofs.fitting.are_sites_of.Goals as goal

pub loop-machine-init : goal.loop-machine-init
loop-machine-init c = λ policy told. record { approved = told; fits = λ here. here }

pub loop-machine-preserved : goal.loop-machine-preserved
loop-machine-preserved c =
    λ policy told. sites_go_on policy c.args.tables.now.rows.users c.args.live.now c.args.machines.now c.loop-machine.machine-index c.machine-item.result c.args.sites.now c.loop-machine.rest.now _
    c.loop-machine-test.true c.machine-item.is (c.loop-machine.invariant policy told) c.in-Some.ensures.behind
