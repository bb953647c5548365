use Rattle.connections.proofs.PollLemmas.{polled}
use Rattle.connections.proofs.polling.answer_poll.Goals as goal

pub returns : goal.returns
returns g c =
    let words = g.N.Entropy.word c.attach_poll-reply.new.entropy in
    let faults = g.N.Entropy.faults c.attach_poll-reply.new.entropy in
    record {
      polled = polled _ c.args.front.now c.args.more c.args.close c.args.poll.now c.answer_attached.result c.attach_poll-reply.result
          _ _ _ _ _ _ _ _ words _ faults _ _ _
          (c.attach_poll-reply.ensures.attached (g.O.Sink.holds c.args.output.now) (g.O.Sink.write_faults c.args.output.now))
          (c.answer_attached.ensures.answered words faults);
    }
