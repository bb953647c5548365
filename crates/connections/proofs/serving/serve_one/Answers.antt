use Rattle.std.proofs.Common.{arith, refl, inl, inr, []}
use Rattle.connections.proofs.ServeLemmas.{serves_none, serves_refused, served_last, goes_one}
use Rattle.exit_status.specs.declared.closed.Closed.TheVariants.{End, Early, ReadFault, NoMemory}
use Rattle.connections.proofs.serving.serve_one.Goals as goal

pub returns-in-Request-clause-goes : goal.returns-in-Request-clause-goes
returns-in-Request-clause-goes g c =
    goes_one _ c.args.front.now c.args.more c.answer_request.result c.in-Request.request _ _ _ _ _ _ _ c.in-Request.ensures.taken c.in-Request.ensures.later c.answer_request.ensures.answered c.answer_request.ensures.goes_on

pub returns-in-Request-clause-ends : goal.returns-in-Request-clause-ends
returns-in-Request-clause-ends g c =
    served_last _ c.args.front.now c.args.more c.answer_request.result c.in-Request.request _ _ _ _ _ _ _ c.in-Request.ensures.taken c.in-Request.ensures.later c.answer_request.ensures.answered

pub returns-in-End-clause-ends : goal.returns-in-End-clause-ends
returns-in-End-clause-ends g c = λ limit some is_last.
    let took = c.in-End.ensures.taken in
    serves_none _ c.args.front.now c.args.more End limit _ took.read _ _ _ refl took.moved c.in-End.ensures.later (refl, inr (refl, took.answers.0, took.answers.2), tt)

pub returns-in-Cut-clause-ends : goal.returns-in-Cut-clause-ends
returns-in-Cut-clause-ends g c = λ limit some is_last.
    let took = c.in-Cut.ensures.taken in
    serves_none _ c.args.front.now c.args.more Early limit _ took.read _ _ _ refl took.moved c.in-Cut.ensures.later (refl, inr (refl, inl (took.answers.0, took.answers.2, refl)), tt)

pub returns-in-Bad-clause-ends : goal.returns-in-Bad-clause-ends
returns-in-Bad-clause-ends g c = λ limit some is_last.
    serves_refused _ c.args.front.now c.args.more c.refuse.result limit _ _ c.in-Bad.fault _ _ _ c.in-Bad.ensures.taken c.in-Bad.ensures.later (λ k. refl) (λ k. refl) (omega arith) c.refuse.ensures.refused

pub returns-in-ReadFault-clause-ends : goal.returns-in-ReadFault-clause-ends
returns-in-ReadFault-clause-ends g c = λ limit some is_last.
    let took = c.in-ReadFault.ensures.taken in
    serves_none _ c.args.front.now c.args.more ReadFault limit _ took.read _ _ _ refl took.moved c.in-ReadFault.ensures.later (refl, refl, took.answers.0, c.in-ReadFault.ensures.cause refl, tt)

pub returns-in-NoMemory-clause-ends : goal.returns-in-NoMemory-clause-ends
returns-in-NoMemory-clause-ends g c = λ limit some is_last.
    let took = c.in-NoMemory.ensures.taken in
    serves_none _ c.args.front.now c.args.more NoMemory limit _ took.read _ _ _ refl took.moved c.in-NoMemory.ensures.later ([], refl)
