use Rattle.std.proofs.Common.{◌≡◌, ◌<◌, ◌^◌, drop}
use Rattle.tail_base.specs.Numerals.{numeral, numeral_after}
use Rattle.tail_base.proofs.numerals.numeral.Given as goal

abbrev pub invariant-loop-b : goal.invariant-loop-b
invariant-loop-b l = record {
  rest : numeral_after l.radix l.n (drop l.b-index l.text) ≡ numeral l.radix l.text;
  small : l.n < 16 ^ l.b-index;
}
