use Rattle.reach_report.specs.Reaches.{reaches_from}
use Rattle.reach_report.proofs.ListLemmas.{joined_more}
use Rattle.reach_report.proofs.reaching.reaches_of.Goals as goal

pub loop-a-preserved : goal.loop-a-preserved
loop-a-preserved c =
    let x = c.args.x.now in
    joined_more (reaches_from x.groups x.rules x.sites) x.sites c.sites-from-items.result.now c.loop-a.a c.loop-a.made _ c.from-item.result _
    c.sites-from-items.ensures.value c.loop-a-test.true c.from-item.is c.loop-a.invariant c.in_ok-add_reaches.ensures.ok
