use Rattle.std.proofs.Common.{◌≡◌, ◌∙◌}
use Rattle.store_rows.specs.Rows.{IsTypedExtra, extra_cells}
use Rattle.store_reads.specs.Readable.{IsReadable, shown_row}
use Rattle.store_reads.proofs.BackLemmas.{if_some, read_back}
use Rattle.store_reads.proofs.OursLemmas.{extra_ours}
use Rattle.store_reads.proofs.single.extra_in.Goals as goal

pub returns-clause-back : goal.returns-clause-back
returns-clause-back c =
    if_some c.in_ok-read_extra.field-0 (λ x. (c.args.row.now ≡ shown_row (extra_cells c.args.place x)) × IsReadable (extra_cells c.args.place) IsTypedExtra x) _ (λ x h. (h.0, (h.1.0, h.1.1.1.0, h.1.1.1.1.0)))
    (read_back (extra_cells c.args.place) IsTypedExtra c.as_slice.result.now c.args.row.now c.in_ok-read_extra.field-0 (extra_ours c.args.place) (c.as_slice.ensures.value ∙ c.in_ok-cells.ensures.value) c.in_ok-read_extra.ensures.exact)
