use Rattle.connections.specs.Carried.{greetings}
use Rattle.connections.specs.Polls.{chunks_for, stream_opening}
use Rattle.connections.proofs.SentLemmas.{sent_broken, sent_then, sized_then}
use Rattle.connections.proofs.streaming.send_first.Goals as goal

pub returns-in-Ok : goal.returns-in-Ok
returns-in-Ok g c = record {
  sent = sent_then tt c.send_responses.result _ _ _ _ _ _ (stream_opening c.args.handle.now c.args.resumed) (chunks_for c.args.responses.now)
      c.in-Ok.ensures.sent c.send_responses.ensures.sent;
  sized = sized_then c.send_responses.result (greetings c.args.handle.now c.args.resumed) c.args.responses.now c.in-Ok.ensures.sized c.send_responses.ensures.sized;
}

pub returns-in-Err : goal.returns-in-Err
returns-in-Err g c = record {
  sent = sent_broken {T = Unit {0}} {U = Unit {0}} c.in-Err.closed _ _ _ _ (stream_opening c.args.handle.now c.args.resumed) (chunks_for c.args.responses.now) c.in-Err.ensures.sent;
  sized = tt;
}
