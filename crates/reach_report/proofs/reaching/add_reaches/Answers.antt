use Rattle.std.proofs.Common.{◌++◌, ◌∙◌, [], ap}
use Rattle.std.specs.Prelude.{Option}
use Rattle.std.specs.List.{cons_option}
use Rattle.reach_report.specs.Reaches.{reach_between}
use Rattle.reach_report.specs.declared.reach.Reach.{Reach}
use Rattle.reach_report.proofs.ListLemmas.{kept_more}
use Rattle.reach_report.proofs.reaching.add_reaches.Goals as goal

pub loop-b-preserved : goal.loop-b-preserved
loop-b-preserved c =
    let x = c.args.x.now in
    let put = c.in_ok-add_reach.ensures.ok ∙ ap (λ (o : Option Reach). c.loop-b.out ++ cons_option o []) c.reach_between.ensures.value in
    kept_more (reach_between x.groups x.rules c.args.from.now) x.sites c.sites-to-items.result.now c.loop-b.b c.loop-b.out _ c.to-item.result _
    c.sites-to-items.ensures.value c.loop-b-test.true c.to-item.is c.loop-b.invariant put
