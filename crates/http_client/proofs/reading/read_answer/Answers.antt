use Rattle.std.proofs.Common.{[], ◌++◌, ap, refl, sym, ◌∙◌, append_assoc, append-nil, arith}
use Rattle.io_edge.specs.Edge.{and_then_left}
use Rattle.io_edge.proofs.Told.{left_more, left_nothing}
use Rattle.http_client.proofs.reading.read_answer.Goals as goal

pub loop-answer-init : goal.loop-answer-init
loop-answer-init g c = record {
  read = [];
  room = c.in-Ok.ensures.len;
  moved = left_nothing _;
  held = sym (append-nil c.args.buffer.now);
  later = omega arith;
  besides = refl;
}

pub loop-answer-preserved : goal.loop-answer-preserved
loop-answer-preserved g c =
    let i = c.loop-answer.invariant in
    let steps = c.in-More.ensures.steps in
    let more = c.in-Some.ensures.refills in
    record {
      read = i.read ++ more.0;
      room = i.room;
      moved = i.moved ∙ ap (and_then_left i.read) more.3 ∙ left_more _ i.read more.0;
      held = more.4 ∙ ap (λ b. b ++ more.0) (steps.0 ∙ i.held) ∙ append_assoc c.args.buffer.now i.read more.0;
      later = omega (arith, i.later, c.refill.ensures.later);
      besides = c.refill.ensures.besides ∙ i.besides;
    }
