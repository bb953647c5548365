use Rattle.std.proofs.Common.{arith}
use Rattle.net_rows.proofs.NamedLemmas.{digit_if_found, digit_if_none, step_if_found, step_if_none, front_none, if_none}
use Rattle.net_rows.proofs.named.+after_number.Goals as goal

pub returns-in_err-front-clause-none : goal.returns-in_err-front-clause-none
returns-in_err-front-clause-none t c =
    if_none c.from_residual.result _ (front_none c.args.number c.args.text.now (omega arith) (omega arith) c.in_err-front.ensures.none)

pub returns-then-number-lt10-clause-found : goal.returns-then-number-lt10-clause-found
returns-then-number-lt10-clause-found t c =
    digit_if_found c.args.number c.args.text.now c.after_digit.result (omega arith) c.after_digit.ensures.found

pub returns-then-number-lt10-clause-none : goal.returns-then-number-lt10-clause-none
returns-then-number-lt10-clause-none t c =
    digit_if_none c.args.number c.args.text.now c.after_digit.result (omega arith) c.after_digit.ensures.none

pub returns-in_ok-front-clause-found : goal.returns-in_ok-front-clause-found
returns-in_ok-front-clause-found t c =
    step_if_found c.args.number c.args.text.now c.in_ok-front.front.now c.after_digit-else-number-lt10.result (omega arith) (omega arith)
    c.in_ok-front.ensures.found c.after_digit-else-number-lt10.ensures.found

pub returns-in_ok-front-clause-none : goal.returns-in_ok-front-clause-none
returns-in_ok-front-clause-none t c =
    step_if_none c.args.number c.args.text.now c.in_ok-front.front.now c.after_digit-else-number-lt10.result (omega arith) (omega arith)
    c.in_ok-front.ensures.found c.after_digit-else-number-lt10.ensures.none
