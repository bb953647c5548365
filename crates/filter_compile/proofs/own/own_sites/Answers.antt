use Rattle.filter_compile.proofs.OwnLemmas.{sites_more}
use Rattle.filter_compile.proofs.own.own_sites.Goals as goal

pub loop-site-preserved : goal.loop-site-preserved
loop-site-preserved c =
    λ addr. sites_more c.args.machine.now addr c.args.sites.now c.loop-site.site-index c.site-item.result c.loop-site.out _ _ c.loop-site-test.true c.site-item.is (c.in_ok-add_own.ensures.held addr) (c.loop-site.invariant addr)
