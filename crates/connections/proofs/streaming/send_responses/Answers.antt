use Rattle.std.proofs.Common.{◌≡◌, ℕ, Option, List, Ok, Err, arith, drop, refl, rules}
use Rattle.connections.proofs.SentLemmas.{all_sized, one_more_sized, responses_failed, responses_done, responses_more}
use Rattle.connections.proofs.streaming.send_responses.Goals as goal

pub loop-response-preserved : goal.loop-response-preserved
loop-response-preserved g c = record {
  sent = λ outcome new now rest.
      c.loop-response.invariant.sent outcome new now (responses_more c.args.responses.now c.loop-response.response-index c.response-item.result tt outcome _ _ new _ _ now
      c.loop-response-test.true c.response-item.is c.in_ok-send_response.ensures.sent rest);
  sized = one_more_sized c.args.responses.now c.loop-response.response-index c.response-item.result c.loop-response-test.true c.response-item.is
      c.loop-response.invariant.sized c.in_ok-send_response.ensures.sized;
}

pub returns-in_err-send_response : goal.returns-in_err-send_response
returns-in_err-send_response g c =
    let same : c.from_residual.result ≡ Err c.in_err-send_response.field-0.0 = search rules in
    record {
      sent = c.loop-response.invariant.sent c.from_residual.result _ _ (responses_failed {T = Unit {0}} c.args.responses.now c.loop-response.response-index c.response-item.result
          c.from_residual.result c.in_err-send_response.field-0.0 _ _ _ _ same c.loop-response-test.true c.response-item.is c.in_err-send_response.ensures.sent);
      sized = rw same tt;
    }

pub returns : goal.returns
returns g c = record {
  sent = c.loop-response.invariant.sent (Ok tt) _ _ (responses_done tt c.args.responses.now c.loop-response.response-index _ _ c.loop-response-test.false);
  sized = all_sized c.args.responses.now c.loop-response.response-index (omega (arith, c.loop-response-test.false)) c.loop-response.invariant.sized;
}
