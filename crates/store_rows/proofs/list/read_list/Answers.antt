use Rattle.std.proofs.Common.{sym, ◌∙◌}
use Rattle.std.specs.List.{All}
use Rattle.store_rows.specs.Lists.{list_text, spelled_list}
use Rattle.store_rows.proofs.ListLemmas.{list_again}
use Rattle.store_rows.proofs.ReadLemmas.{guess_judged, guess_none, guess_refused}
use Rattle.store_rows.proofs.list.read_list.Goals as goal

pub returns-in_default : goal.returns-in_default
returns-in_default g c = record {
  exact = guess_none (list_text g.T.Listed.text) (All g.T.Listed.Fits) (spelled_list g.T.Listed.of_text) c.args.text.now
      (list_again g.T.Listed.text g.T.Listed.of_text g.T.Listed.Fits c.texts_are_listed.ensures.pieces)
      (sym c.in_ok-items.ensures.value ∙ c.in_default.is);
}

pub returns-then-is_same : goal.returns-then-is_same
returns-then-is_same g c = record {
  exact = guess_judged (list_text g.T.Listed.text) (All g.T.Listed.Fits) (spelled_list g.T.Listed.of_text) c.args.text.now c.in-Some.items c.is_same.result
      (list_again g.T.Listed.text g.T.Listed.of_text g.T.Listed.Fits c.texts_are_listed.ensures.pieces)
      (sym c.in_ok-items.ensures.value ∙ c.in-Some.is) (rw c.in-Some.is at c.in_ok-items.ensures.fit)
      (rw (c.as_slice-2.ensures.value, c.in_ok-again.ensures.value, c.as_slice.ensures.value) at c.is_same.ensures.value) c.if-is_same.true;
}

pub returns-else-is_same : goal.returns-else-is_same
returns-else-is_same g c = record {
  exact = guess_refused (list_text g.T.Listed.text) (All g.T.Listed.Fits) (spelled_list g.T.Listed.of_text) c.args.text.now c.in-Some.items c.is_same.result
      (list_again g.T.Listed.text g.T.Listed.of_text g.T.Listed.Fits c.texts_are_listed.ensures.pieces)
      (sym c.in_ok-items.ensures.value ∙ c.in-Some.is)
      (rw (c.as_slice-2.ensures.value, c.in_ok-again.ensures.value, c.as_slice.ensures.value) at c.is_same.ensures.value) c.if-is_same.false;
}
