use Rattle.connections.proofs.PollLemmas.{frames_broken, frames_then}
use Rattle.connections.proofs.polling.send_frames.Goals as goal

pub returns-in-Ok : goal.returns-in-Ok
returns-in-Ok g c = record {
  sent = λ given words word_faults.
      let a = c.args.stream.now in
      frames_then _ given a.more a.close a.poll.now a.handle.now a.resumed tt c.send_further.result c.args.responses.now _ _ _ _ _ _ _ _ words word_faults _ _
      c.in-Ok.ensures.sent c.in-Ok.ensures.sized (c.send_further.ensures.further words word_faults);
}

pub returns-in-Err : goal.returns-in-Err
returns-in-Err g c = record {
  sent = λ given words word_faults.
      let a = c.args.stream.now in
      frames_broken _ given a.more a.close a.poll.now a.handle.now a.resumed c.in-Err.closed c.args.responses.now _ _ _ _ _ words word_faults _ c.in-Err.ensures.sent;
}
