use Rattle.tailnet_desk.specs.Step.{drain_reply}
use Rattle.connections.specs.Tellings.{writing}
use Rattle.connections.proofs.PollLemmas.{followed_all}
use Rattle.connections.proofs.polling.follow.Goals as goal

pub returns : goal.returns
returns g c = record {
  followed = λ words word_faults.
      let a = c.args.stream.now in
      let at = writing g.O.Sink.holds g.O.Sink.write_faults g.C.Clock.answer words word_faults in
      let before = at c.args.output.now c.args.clock.now in
      let behind = at c.answer_drain-sent.new.output c.answer_drain-sent.new.clock in
      followed_all _ c.args.front.now a.more a.close a.poll.now a.handle.now a.resumed c.answer_drain-sent.result c.complete.result (drain_reply c.drain_poll-drained.result)
      _ _ _ _ _ _ _ _ _ _ words word_faults _ _ _ _
      (c.drain_poll-drained.ensures.drained before) (c.answer_drain-sent.ensures.sent words word_faults) (c.detach_poll.ensures.detached behind) c.complete.ensures.completed;
}
