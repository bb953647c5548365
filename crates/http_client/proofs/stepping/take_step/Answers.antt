use Rattle.std.proofs.Common.{refl}
use Rattle.http_client.proofs.AnswerLooks.{cut_off}
use Rattle.http_client.proofs.stepping.take_step.Goals as goal

pub returns : goal.returns
returns c = record {
  steps = cut_off c.args.buffer.now c.held-held.result.now c.serve.new.self c.in-Whole.head c.in-Whole.size _
      c.held-held.ensures.value c.in-Whole.ensures.look c.in-Ok.ensures.value refl c.serve.ensures.value;
}
