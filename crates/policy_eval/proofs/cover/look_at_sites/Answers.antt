use Rattle.policy_sites.specs.ByRule.{IsSoundSite}
use Rattle.policy_sites.proofs.ListLemmas.{told_all, told_more}
use Rattle.policy_eval.proofs.cover.look_at_sites.Goals as goal

pub loop-site-preserved : goal.loop-site-preserved
loop-site-preserved c =
    told_more IsSoundSite c.args.sites.now c.loop-site.site-index c.site-item.result c.loop-site-test.true c.site-item.is c.loop-site.invariant c.look_at_site.ensures.sound

pub returns : goal.returns
returns c = record { sound = told_all IsSoundSite c.args.sites.now c.loop-site.site-index c.loop-site.auto.site-index-end c.loop-site-test.false c.loop-site.invariant }
