use Rattle.std.proofs.Common.{arith}
use Rattle.tail_base.proofs.NumeralLemmas.{product_fits}
use Rattle.tail_base.proofs.numerals.numeral.Goals as goal

pub overflow_mul-n : goal.overflow_mul-n
overflow_mul-n c =
    let most = product_fits c.loop-b.n c.args.radix c.loop-b.b-index c.loop-b.invariant.small (omega arith) c.requires.high in
    omega arith

pub overflow_add-n : goal.overflow_add-n
overflow_add-n c =
    let most = product_fits c.loop-b.n c.args.radix c.loop-b.b-index c.loop-b.invariant.small (omega arith) c.requires.high in
    omega (arith, c.in_ok-digit.ensures.value.0, c.in_ok-digit.ensures.value.1)
