use Rattle.std.proofs.Common.{◌<◌, ◌++◌, ◌∷◌, ◌∙◌, List, [], ap, arith, get_or, length, subst, sym}
use Rattle.std.proofs.lemmas.List.{take_all}
use Rattle.sqlite_value.specs.Order.{Row}
use Rattle.store_reads.specs.Readable.{IsReadable, shown_row}
use Rattle.store_reads.proofs.BackLemmas.{read_on}
use Rattle.store_reads.proofs.DamageLemmas.{unread_here}
use Rattle.store_reads.proofs.Lists.{at_place}
use Rattle.store_reads.proofs.listed.rows_in.Goals as goal

pub returns-in-Err : goal.returns-in-Err
returns-in-Err g c = record {
  read = λ xs shows good.
      let i = c.loop-row.row-index in
      let at = at_place (λ x. shown_row (g.T.Loaded.stored x)) (IsReadable g.T.Loaded.stored g.T.Loaded.Typed) xs i c.row-item.result
      (subst (λ (l : List Row). i < length l) shows c.loop-row-test.true) (c.row-item.is ∙ ap (λ (l : List Row). get_or l i c.row-item.result) shows) good in
      c.in-Err.ensures.read at.it at.is at.keeps;
  back = tt;
  err = c.in-Err.ensures.err;
  unread = unread_here g.T.Loaded.stored g.T.Loaded.Typed g.T.Loaded.kind_is c.args.rows.now c.loop-row.row-index c.row-item.result _ c.in-Err.fault c.loop-row-test.true c.row-item.is c.loop-row.invariant.back c.in-Err.ensures.read c.in-Err.ensures.unread;
}

pub loop-row-preserved : goal.loop-row-preserved
loop-row-preserved g c = record {
  read = λ xs shows good.
      let i = c.loop-row.row-index in
      let at = at_place (λ x. shown_row (g.T.Loaded.stored x)) (IsReadable g.T.Loaded.stored g.T.Loaded.Typed) xs i c.row-item.result
      (subst (λ (l : List Row). i < length l) shows c.loop-row-test.true) (c.row-item.is ∙ ap (λ (l : List Row). get_or l i c.row-item.result) shows) good in
      c.in-Ok.ensures.read at.it at.is at.keeps ∙ ap (λ l. l ++ at.it ∷ []) (c.loop-row.invariant.read xs shows good) ∙ sym at.next;
  back = read_on g.T.Loaded.stored g.T.Loaded.Typed c.args.rows.now c.loop-row.row-index c.row-item.result _ _ c.loop-row-test.true c.row-item.is c.loop-row.invariant.back c.in-Ok.ensures.back;
}

pub returns-clause-back : goal.returns-clause-back
returns-clause-back g c =
    (sym (take_all c.loop-row.row-index c.args.rows.now (omega (arith, c.loop-row-test.false))) ∙ c.loop-row.invariant.back.shows, c.loop-row.invariant.back.readable)
