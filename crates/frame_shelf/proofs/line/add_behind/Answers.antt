use Rattle.frame_shelf.proofs.LineLemmas.{behind_more}
use Rattle.frame_shelf.proofs.line.add_behind.Goals as goal

pub loop-response-preserved : goal.loop-response-preserved
loop-response-preserved c =
    behind_more c.args.number c.args.responses.now c.loop-response.response-index c.response-item.result c.loop-response.made _ _
    c.loop-response-test.true c.response-item.is c.loop-response.invariant c.in_ok-add_if_behind.ensures.ok
