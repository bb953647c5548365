use Rattle.std.proofs.Common.{refl}
use Rattle.connections.proofs.PollLemmas.{answered_alone, answered_on}
use Rattle.connections.proofs.polling.answer_attached.Goals as goal

pub returns-in-Attached : goal.returns-in-Attached
returns-in-Attached g c = record {
  answered = λ words faults. answered_on _ c.args.front.now c.args.more c.args.close c.args.poll.now c.follow.result c.args.reply.now
      c.in-Attached.handle c.in-Attached.seq c.in-Attached.resumed c.in-Attached.may_wait _ _ _ _ c.in-Attached.is
      (rw c.further_of.ensures.value at (c.follow.ensures.followed words faults));
}

pub returns-in-Refused : goal.returns-in-Refused
returns-in-Refused g c = record {
  answered = λ words faults. answered_alone _ c.args.front.now c.args.more c.args.close c.args.poll.now c.refuse_poll.result c.args.reply.now _ _ _ _ _ words faults _
      (rw c.in-Refused.is (refl, refl)) c.refuse_poll.ensures.sent;
}

pub returns-in-Lost : goal.returns-in-Lost
returns-in-Lost g c = record {
  answered = λ words faults. answered_alone _ c.args.front.now c.args.more c.args.close c.args.poll.now c.refuse_poll-in-Lost.result c.args.reply.now _ _ _ _ _ words faults _
      (rw c.in-Lost.is (refl, refl)) c.refuse_poll-in-Lost.ensures.sent;
}
