use Rattle.reach_report.proofs.TextLemmas.{lines_all, lines_more, moved}
use Rattle.reach_report.proofs.texts.add_lines.Goals as goal

pub loop-reach-preserved : goal.loop-reach-preserved
loop-reach-preserved c =
    λ bytes h. moved _ _ _ _ (lines_more c.args.reaches.now c.loop-reach.reach-index _ bytes c.loop-reach-test.true) (c.in_ok-add_numbers.ensures.ok _ (c.loop-reach.invariant bytes h))

pub returns : goal.returns
returns c = record {
  ok = λ bytes h. moved _ _ _ _ (lines_all c.args.reaches.now c.loop-reach.reach-index bytes c.loop-reach.auto.reach-index-end c.loop-reach-test.false) (c.loop-reach.invariant bytes h);
}
