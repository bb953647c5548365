use Rattle.std.specs.Option.{option_copied}
use Rattle.policy_sites.specs.Sites.{is_among, site_of}
use Rattle.policy_sites.proofs.ListLemmas.{gathered_more}
use Rattle.policy_sites.proofs.site.sites_among.Goals as goal

pub loop-machine-preserved : goal.loop-machine-preserved
loop-machine-preserved c =
    gathered_more (is_among c.args.live.now) (site_of (option_copied c.args.policy) c.args.tables.now.rows.users) c.args.machines.now c.loop-machine.machine-index c.loop-machine.sites _ c.machine-item.result _
    c.loop-machine-test.true c.machine-item.is c.loop-machine.invariant c.in_ok-add_site.ensures.ok
