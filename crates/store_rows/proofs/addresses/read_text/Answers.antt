use Rattle.std.proofs.Common.{refl, sym, ◌∙◌}
use Rattle.net_addr.specs.AddrTexts.{addr_of_text, addr_text}
use Rattle.net_addr.proofs.PrefixLemmas.{addr_again}
use Rattle.store_rows.specs.Addresses.{IsAddress}
use Rattle.store_rows.proofs.ReadLemmas.{Guesses, guess_judged, guess_none, guess_refused}
use Rattle.store_rows.proofs.addresses.read_text.Goals as goal

again : Guesses addr_text IsAddress addr_of_text
again addr small = addr_again addr small (addr_text addr) refl

pub returns-in_default : goal.returns-in_default
returns-in_default c = record {
  exact = guess_none addr_text IsAddress addr_of_text c.args.text.now again (sym c.read.ensures.value ∙ c.in_default.is);
}

pub returns-then-is_same : goal.returns-then-is_same
returns-then-is_same c = record {
  exact = guess_judged addr_text IsAddress addr_of_text c.args.text.now c.in-Some.addr c.is_same.result again
      (sym c.read.ensures.value ∙ c.in-Some.is) c.bits-in_family.ensures.in_family
      (rw (c.as_slice.ensures.value, c.in_ok-again.ensures.value) at c.is_same.ensures.value) c.if-is_same.true;
}

pub returns : goal.returns
returns c = record {
  exact = guess_refused addr_text IsAddress addr_of_text c.args.text.now c.in-Some.addr c.is_same.result again
      (sym c.read.ensures.value ∙ c.in-Some.is)
      (rw (c.as_slice.ensures.value, c.in_ok-again.ensures.value) at c.is_same.ensures.value) c.if-is_same.false;
}
