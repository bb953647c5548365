use Rattle.std.proofs.Common.{refl, arith}
use Rattle.connections.specs.Exchanges.{breaks, ended_by}
use Rattle.connections.proofs.AnswerLemmas.{answered_fixed, exchange_unanswered}
use Rattle.connections.proofs.answering.answer_request.Goals as goal

pub returns-in_default-clause-answered : goal.returns-in_default-clause-answered
returns-in_default-clause-answered g c =
    answered_fixed _ c.args.front.now c.args.more c.send.result c.finish.result c.args.request.now c.args.last c.no_memory_answer.result.now (ended_by c.closes-close.result) _ _ _
    (exchange_unanswered c.args.front.now c.args.more c.args.request.now c.args.last c.closes-close.result (breaks c.finish.result) _ c.closes-close.ensures.value c.no_memory_answer.ensures.value)
    (λ k. refl) (λ k. refl) (omega arith) c.send.ensures.sent c.finish.ensures.follows
