use Rattle.std.proofs.Common.{◌≡◌, ◌+◌, ◌<◌, ◌++◌, ◌∷◌, ◌∙◌, List, [], ap, arith, get_or, length, rules, subst, sym}
use Rattle.std.proofs.lemmas.List.{take_all}
use Rattle.sqlite_value.specs.Order.{Row}
use Rattle.store_rows.specs.Rows.{extra_cells}
use Rattle.store_reads.specs.Readable.{shown_row}
use Rattle.store_reads.proofs.BackLemmas.{extra_read_on}
use Rattle.store_reads.proofs.Lists.{extra_at, shown_count}
use Rattle.store_reads.proofs.single.extras_in.Goals as goal

pub returns-in-Err : goal.returns-in-Err
returns-in-Err c = record {
  read = λ xs shows good.
      let i = c.loop-row.row-index in
      let at = extra_at 1 xs i c.row-item.result (subst (λ (l : List Row). i < length l) shows c.loop-row-test.true) (c.row-item.is ∙ ap (λ (l : List Row). get_or l i c.row-item.result) shows) good in
      let place : i + 1 ≡ c.in-Some.place = search rules in
      c.in-Err.ensures.read at.it (at.is ∙ ap (λ n. shown_row (extra_cells n at.it)) place) at.keeps;
  back = tt;
  err = c.in-Err.ensures.err;
  unread = c.in-Err.ensures.unread;
}

pub loop-row-preserved : goal.loop-row-preserved
loop-row-preserved c = record {
  last = search rules;
  read = λ xs shows good.
      let i = c.loop-row.row-index in
      let at = extra_at 1 xs i c.row-item.result (subst (λ (l : List Row). i < length l) shows c.loop-row-test.true) (c.row-item.is ∙ ap (λ (l : List Row). get_or l i c.row-item.result) shows) good in
      let place : i + 1 ≡ c.in-Some.place = search rules in
      c.in-Ok.ensures.read at.it (at.is ∙ ap (λ n. shown_row (extra_cells n at.it)) place) at.keeps ∙ ap (λ l. l ++ at.it ∷ []) (c.loop-row.invariant.read xs shows good) ∙ sym at.next;
  back = extra_read_on c.args.rows.now c.loop-row.row-index c.in-Some.place c.row-item.result _ _ c.loop-row-test.true c.row-item.is (search rules) c.loop-row.invariant.back c.in-Ok.ensures.back;
}

pub returns : goal.returns
returns c = record {
  read = λ xs shows good.
      c.loop-row.invariant.read xs shows good ∙ take_all c.loop-row.row-index xs (omega (arith, c.loop-row-test.false, ap (λ (l : List Row). length l) shows, shown_count 1 xs));
  back = (sym (take_all c.loop-row.row-index c.args.rows.now (omega (arith, c.loop-row-test.false))) ∙ c.loop-row.invariant.back.shows, c.loop-row.invariant.back.readable);
  err = tt;
  unread = tt;
}
