use Rattle.std.proofs.Common.{arith}
use Rattle.std.proofs.lemmas.Result.{IfOk-weaker}
use Rattle.wire_write.proofs.NumeralLemmas.{appended, hex_more}
use Rattle.wire_write.proofs.numerals.+append_hex.Goals as goal

pub returns : goal.returns
returns t c = record {
  ok = IfOk-weaker c.append_digit-2.result _ _ (λ _ is. appended _ _ _ c.in_ok-append_hex.ensures.ok is (hex_more c.args.number (omega arith) (omega (arith, c.ranges.number.fits)))) c.append_digit-2.ensures.ok;
}
