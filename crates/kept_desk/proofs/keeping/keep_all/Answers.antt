use Rattle.kept_desk.proofs.KeepLemmas.{keep_more}
use Rattle.kept_desk.proofs.keeping.keep_all.Goals as goal

pub loop-response-preserved : goal.loop-response-preserved
loop-response-preserved c =
    keep_more c.args.shelf.now c.args.machine.now c.args.handle.now c.args.responses.now c.loop-response.response-index c.response-item.result
    c.loop-response.shelf _ c.loop-response-test.true c.response-item.is c.loop-response.invariant c.in_ok-keep_numbered.ensures.ok
