use Rattle.tailnet_desk.specs.declared.reply.Loss.TheVariants.{NoMemory}
use Rattle.connections.proofs.PollLemmas.{ended_then, lost_then}
use Rattle.connections.proofs.polling.answer_drain.Goals as goal

pub returns-in-Frames : goal.returns-in-Frames
returns-in-Frames g c = rw c.in-Frames.is (record {
  sent = λ words word_faults. rw c.as_slice.ensures.value at (c.send_frames.ensures.sent c.args.front.now words word_faults);
})

pub returns-in-Ended : goal.returns-in-Ended
returns-in-Ended g c = rw c.in-Ended.is (record {
  sent = λ words word_faults.
      let a = c.args.stream.now in
      ended_then _ c.args.front.now a.more a.close a.poll.now a.handle.now a.resumed c.send_opening.result _ _ _ _ _ words word_faults _ c.send_opening.ensures.sent
      c.send_opening.ensures.sized;
})

pub returns-in-NoMemory : goal.returns-in-NoMemory
returns-in-NoMemory g c = rw c.in-NoMemory.is (record {
  sent = λ words word_faults.
      let a = c.args.stream.now in
      lost_then _ c.args.front.now a.more a.close a.poll.now a.handle.now a.resumed c.send_reply.result NoMemory _ _ _ _ _ words word_faults _
      (rw c.map_ask.ensures.value at c.send_reply.ensures.sent);
})
