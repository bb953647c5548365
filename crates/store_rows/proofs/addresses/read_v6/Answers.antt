use Rattle.std.proofs.Common.{sym, ◌∙◌}
use Rattle.store_rows.specs.Addresses.{v6_bytes, v6_in}
use Rattle.store_rows.proofs.AddressLemmas.{IsV6Number, v6_again}
use Rattle.store_rows.proofs.ReadLemmas.{guess_judged, guess_none, guess_refused}
use Rattle.store_rows.proofs.addresses.read_v6.Goals as goal

pub returns-in_default : goal.returns-in_default
returns-in_default c = record {
  exact = guess_none v6_bytes IsV6Number v6_in c.args.bytes.now v6_again (sym c.v6_in.ensures.value ∙ c.in_default.is);
}

pub returns-then-is_same : goal.returns-then-is_same
returns-then-is_same c = record {
  exact = guess_judged v6_bytes IsV6Number v6_in c.args.bytes.now c.in-Some.bits c.is_same.result v6_again
      (sym c.v6_in.ensures.value ∙ c.in-Some.is) c.in-Some.ensures.fits
      (rw (c.as_slice.ensures.value, c.in_ok-again.ensures.value) at c.is_same.ensures.value) c.if-is_same.true;
}

pub returns : goal.returns
returns c = record {
  exact = guess_refused v6_bytes IsV6Number v6_in c.args.bytes.now c.in-Some.bits c.is_same.result v6_again
      (sym c.v6_in.ensures.value ∙ c.in-Some.is)
      (rw (c.as_slice.ensures.value, c.in_ok-again.ensures.value) at c.is_same.ensures.value) c.if-is_same.false;
}
