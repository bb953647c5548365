use Rattle.filter_compile.proofs.StepLemmas.{plain_more}
use Rattle.filter_compile.proofs.dests.plain_dests.Goals as goal

pub loop-place-preserved : goal.loop-place-preserved
loop-place-preserved c =
    let x = c.args.expanded.now in
    plain_more x.groups x.sites c.args.machine.now x.rules c.args.at c.loop-place.place c.args.rule.now c.entry-item.result c.dest_set-covered.result.now c.args.served.now
    c.ranges-in-loop-place.result.now c.as_slice-entry-items.result.now c.loop-place.out _ _ c.as_slice-entry-items.ensures.value c.ranges-in-loop-place.ensures.value c.loop-place-test.true c.entry-item.is
    c.requires.same c.dest_set-covered.ensures.held c.requires.served c.loop-place.invariant c.in_ok-add_shared.ensures.ok
