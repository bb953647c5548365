use Rattle.std.proofs.Common.{◌≡◌, ◌∙◌, ap, arith, rules, ◌∷◌, []}
use Rattle.store_rows.specs.Rows.{IsTypedCounters, meta_cells}
use Rattle.store_reads.specs.Readable.{IsReadable, shown_row}
use Rattle.store_reads.proofs.BackLemmas.{alone, if_some, read_back}
use Rattle.store_reads.proofs.OursLemmas.{meta_ours}
use Rattle.store_reads.proofs.single.next_in.Goals as goal

pub returns-clause-back : goal.returns-clause-back
returns-clause-back c =
    let row = c.row-item.result in
    let one = alone c.args.rows.now row (omega (arith, c.in-len1.len_at_least)) (omega (arith, c.in-len1.len_below)) (search rules) in
    if_some c.in_ok-read_meta.field-0 (λ x. (row ≡ shown_row (meta_cells x)) × IsReadable meta_cells IsTypedCounters x) _ (λ x h. (one ∙ ap (λ r. r ∷ []) h.0, h.1.0))
    (read_back meta_cells IsTypedCounters c.as_slice.result.now row c.in_ok-read_meta.field-0 meta_ours (c.as_slice.ensures.value ∙ c.in_ok-cells.ensures.value) c.in_ok-read_meta.ensures.exact)
