use Rattle.tailnet_desk.specs.Step.{drain_reply}
use Rattle.connections.specs.Tellings.{writing}
use Rattle.connections.proofs.PollLemmas.{next_sent}
use Rattle.connections.proofs.polling.send_next.Goals as goal

pub returns : goal.returns
returns g c = record {
  next = λ words word_faults.
      let before = writing g.O.Sink.holds g.O.Sink.write_faults g.C.Clock.answer words word_faults c.args.output.now c.args.clock.now in
      next_sent _ c.send_drained.result c.args.machine.now c.args.handle.now (drain_reply c.drain_poll-drained.result) _ _ _ _ _ _ words word_faults _ _
      (c.drain_poll-drained.ensures.drained before) c.send_drained.ensures.sent c.send_drained.ensures.goes_on c.send_drained.ensures.sized;
}
