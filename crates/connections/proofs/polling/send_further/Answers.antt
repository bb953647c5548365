use Rattle.std.proofs.Common.{◌≡◌, ◌-◌, Ok, Err, arith, refl, rules}
use Rattle.connections.proofs.PollLemmas.{further_failed, further_last, further_left, further_more, further_none, further_waited}
use Rattle.connections.proofs.polling.send_further.Goals as goal

pub loop-left-preserved : goal.loop-left-preserved
loop-left-preserved g c = λ words word_faults outcome new t rest.
    c.loop-left.invariant words word_faults outcome new t
    (further_waited _ c.in_ok-seen.seen outcome c.args.machine.now c.args.handle.now c.loop-left.left _ _ _ _ _ words word_faults new _ t (c.in_ok-seen.ensures.sent)
    (further_more _ c.in_ok-goes_on.goes_on outcome c.args.machine.now c.args.handle.now c.loop-left.left (c.loop-left.left - 1) _ _ new _ _ t
    refl c.loop-left-test.true c.if-not-goes_on.false (c.in_ok-goes_on.ensures.next words word_faults) rest))

pub returns-in_err-seen : goal.returns-in_err-seen
returns-in_err-seen g c =
    let same : c.from_residual.result ≡ Err c.in_err-seen.field-0.0 = search rules in
    record {
      further = λ words word_faults. c.loop-left.invariant words word_faults c.from_residual.result _ _
          (further_left _ c.from_residual.result c.in_err-seen.field-0.0 c.args.machine.now c.args.handle.now c.loop-left.left _ _ _ _ _ words word_faults _ same
          (c.in_err-seen.ensures.sent));
    }

pub returns-in_err-goes_on : goal.returns-in_err-goes_on
returns-in_err-goes_on g c =
    let same : c.from_residual-in_err-goes_on.result ≡ Err c.in_err-goes_on.field-0.0 = search rules in
    record {
      further = λ words word_faults. c.loop-left.invariant words word_faults c.from_residual-in_err-goes_on.result _ _
          (further_waited _ c.in_ok-seen.seen c.from_residual-in_err-goes_on.result c.args.machine.now c.args.handle.now c.loop-left.left _ _ _ _ _ words word_faults _ _ _ (c.in_ok-seen.ensures.sent)
          (further_failed _ c.from_residual-in_err-goes_on.result c.in_err-goes_on.field-0.0 c.args.machine.now c.args.handle.now c.loop-left.left _ _ _ _ same c.loop-left-test.true
          (c.in_err-goes_on.ensures.next words word_faults)));
    }

pub returns-then-not-goes_on : goal.returns-then-not-goes_on
returns-then-not-goes_on g c = record {
  further = λ words word_faults. c.loop-left.invariant words word_faults (Ok tt) _ _
      (further_waited _ c.in_ok-seen.seen (Ok tt) c.args.machine.now c.args.handle.now c.loop-left.left _ _ _ _ _ words word_faults _ _ _ (c.in_ok-seen.ensures.sent)
      (further_last _ c.in_ok-goes_on.goes_on tt c.args.machine.now c.args.handle.now c.loop-left.left _ _ _ _ c.loop-left-test.true c.if-not-goes_on.true
      (c.in_ok-goes_on.ensures.next words word_faults)));
}

pub returns : goal.returns
returns g c =
    let none : c.loop-left.left ≡ 0 = omega (arith, c.loop-left-test.false) in
    record { further = λ words word_faults. c.loop-left.invariant words word_faults (Ok tt) _ _ (further_none _ tt c.args.machine.now c.args.handle.now c.loop-left.left _ _ none) }
