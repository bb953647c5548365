use Rattle.std.proofs.Common.{◌∙◌}
use Rattle.exit_status.proofs.Writes.{wrote_more, parts}
use Rattle.exit_status.proofs.writing.write_all.Goals as goal

pub loop-rest-preserved : goal.loop-rest-preserved
loop-rest-preserved g c =
    let done = c.in_ok-n.ensures in
    let i = c.loop-rest.invariant in
    record {
      wrote = λ new now failed w.
          i.wrote new now failed (wrote_more _ _ new _ _ now _ _ _ failed (parts c.loop-rest.rest.now c.in_ok-n.n) done.appended done.cause.later w);
      besides = done.besides ∙ i.besides;
    }
