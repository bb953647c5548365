use Rattle.std.proofs.Common.{◌≡◌, ◌++◌, subst, ap, ◌∙◌, inr, arith, append_assoc}
use Rattle.std.proofs.lemmas.Bool.{false≢true}
use Rattle.io_edge.specs.Edge.{and_then_left}
use Rattle.io_edge.proofs.Told.{left_more}
use Rattle.http_front.specs.Requests.{IsBad}
use Rattle.http_front.proofs.Needs.{needed_more, wants_first, idle_still, is_cut}
use Rattle.http_front.proofs.taking.take_request.Goals as goal

pub returns-in-Bad-clause-taken : goal.returns-in-Bad-clause-taken
returns-in-Bad-clause-taken g c =
    let i = c.loop-request.invariant in
    record {
      read = i.read;
      moved = i.moved;
      needed = i.needed;
      answers = (subst (λ b. IsBad b c.in-Bad.fault) i.held c.in-Bad.ensures.steps.1, c.in-Bad.ensures.steps.0 ∙ i.held);
    }

pub returns-in-Bad-clause-idle : goal.returns-in-Bad-clause-idle
returns-in-Bad-clause-idle g c = idle_still c.loop-request.invariant.idle

pub loop-request-preserved : goal.loop-request-preserved
loop-request-preserved g c =
    let i = c.loop-request.invariant in
    let steps = c.in-More.ensures.steps in
    let more = c.in-Some.ensures.refills in
    record {
      read = i.read ++ more.0;
      moved = i.moved ∙ ap (and_then_left i.read) more.3 ∙ left_more _ i.read more.0;
      held = more.4 ∙ ap (λ b. b ++ more.0) (steps.0 ∙ i.held) ∙ append_assoc c.args.buffer.now i.read more.0;
      needed = needed_more c.args.buffer.now c.loop-request.buffer i.read more.0 i.held more.2 steps.1;
      idle = inr (wants_first c.args.buffer.now c.loop-request.buffer i.read i.held i.idle steps.1);
      later = omega (arith, i.later, c.refill.ensures.later);
    }

pub returns-in-End-2-clause-taken : goal.returns-in-End-2-clause-taken
returns-in-End-2-clause-taken g c =
    let i = c.loop-request.invariant in
    let steps = c.in-More.ensures.steps in
    let end = c.in-End.ensures.refills in
    let same : c.refill.new.self ≡ c.args.buffer.now ++ i.read = end.1 ∙ steps.0 ∙ i.held in
    record {
      read = i.read;
      moved = i.moved ∙ ap (and_then_left i.read) end.0;
      needed = i.needed;
      answers = (
        is_cut (c.args.buffer.now ++ i.read) c.loop-request.buffer i.held (λ none. false≢true (c.if-is_empty.ensures.value.1 (end.1 ∙ steps.0 ∙ none))) steps.1,
        same,
        end.2,
      );
    }

pub returns-in-End-2-clause-idle : goal.returns-in-End-2-clause-idle
returns-in-End-2-clause-idle g c =
    let i = c.loop-request.invariant in
    inr (wants_first c.args.buffer.now c.loop-request.buffer i.read i.held i.idle c.in-More.ensures.steps.1)

pub returns-in-Failed-clause-idle : goal.returns-in-Failed-clause-idle
returns-in-Failed-clause-idle g c =
    let i = c.loop-request.invariant in
    inr (wants_first c.args.buffer.now c.loop-request.buffer i.read i.held i.idle c.in-More.ensures.steps.1)

pub returns-in-NoMemory-refill-clause-idle : goal.returns-in-NoMemory-refill-clause-idle
returns-in-NoMemory-refill-clause-idle g c =
    let i = c.loop-request.invariant in
    inr (wants_first c.args.buffer.now c.loop-request.buffer i.read i.held i.idle c.in-More.ensures.steps.1)
