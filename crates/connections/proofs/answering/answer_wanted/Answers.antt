use Rattle.std.proofs.Common.{refl, sym, true, Some, arith}
use Rattle.http_front.specs.AnswerBytes.{answer}
use Rattle.connections.specs.Exchanges.{breaks, ended_by}
use Rattle.exit_status.specs.declared.closed.Closed.TheVariants.{Early}
use Rattle.connections.proofs.AnswerLemmas.{answered_fixed, answered_ask, answered_poll, exchange_fixed, exchange_faulty}
use Rattle.connections.proofs.answering.answer_wanted.Goals as goal

pub returns-in-Fault-clause-answered : goal.returns-in-Fault-clause-answered
returns-in-Fault-clause-answered g c =
    let w = rw c.in-Fault.is at c.requires.wanted in
    let sent = rw c.as_slice.ensures.value at c.answer_fixed.ensures.sent in
    answered_fixed _ c.args.front.now c.args.more c.answer_fixed.result c.finish_early.result c.args.request.now c.args.last (answer 400 c.in-Fault.body true) (Some Early) _ _ _
    (exchange_faulty c.args.front.now c.args.more c.args.request.now c.args.last (breaks c.finish_early.result) c.in-Fault.body w)
    (λ k. refl) (λ k. refl) (omega arith) sent c.finish_early.ensures.follows

pub returns-in-Answer-clause-answered : goal.returns-in-Answer-clause-answered
returns-in-Answer-clause-answered g c =
    let w = rw c.in-Answer.is at c.requires.wanted in
    let sent = rw c.as_slice-in-Answer.ensures.value at c.answer_fixed-in-Answer.ensures.sent in
    answered_fixed _ c.args.front.now c.args.more c.answer_fixed-in-Answer.result c.finish.result c.args.request.now c.args.last (answer c.in-Answer.status c.in-Answer.body c.args.close) (ended_by c.args.close) _ _ _
    (exchange_fixed c.args.front.now c.args.more c.args.request.now c.args.last c.args.close (breaks c.finish.result) c.in-Answer.status c.in-Answer.body c.requires.close w)
    (λ k. refl) (λ k. refl) (omega arith) sent c.finish.ensures.follows

pub returns-in-Poll-clause-answered : goal.returns-in-Poll-clause-answered
returns-in-Poll-clause-answered g c =
    let w = rw c.in-Poll.is at c.requires.wanted in
    answered_poll _ c.args.front.now c.args.more c.answer_poll.result c.finish-in-Poll.result c.args.request.now c.args.last c.in-Poll.poll _ _ _ _
    (sym w) (rw c.requires.close at c.answer_poll.ensures.polled) (rw c.requires.close at c.finish-in-Poll.ensures.follows)

pub returns-in-Ask-clause-answered : goal.returns-in-Ask-clause-answered
returns-in-Ask-clause-answered g c =
    let w = rw c.in-Ask.is at c.requires.wanted in
    answered_ask _ c.args.front.now c.args.more c.answer_ask.result c.finish-in-Ask.result c.args.request.now c.args.last c.in-Ask.ask _ _ _ _
    (sym w) (rw c.requires.close at c.answer_ask.ensures.asked) (rw c.requires.close at c.finish-in-Ask.ensures.follows)
