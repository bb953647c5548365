use Rattle.std.proofs.Common.{◌≡◌, ◌∙◌}
use Rattle.store_rows.specs.Rows.{policy_cells}
use Rattle.store_reads.specs.Readable.{IsReadable, shown_row}
use Rattle.store_reads.proofs.BackLemmas.{if_some, read_back}
use Rattle.store_reads.proofs.OursLemmas.{policy_ours}
use Rattle.store_reads.proofs.single.policy_in.Goals as goal

pub returns-clause-back : goal.returns-clause-back
returns-clause-back c =
    if_some c.in_ok-read_policy_text.field-0 (λ x. (c.args.row.now ≡ shown_row (policy_cells x)) × IsReadable policy_cells (λ _. Unit {0}) x) _ (λ x h. (h.0, h.1.1.1.0))
    (read_back policy_cells (λ _. Unit {0}) c.as_slice.result.now c.args.row.now c.in_ok-read_policy_text.field-0 policy_ours (c.as_slice.ensures.value ∙ c.in_ok-cells.ensures.value) c.in_ok-read_policy_text.ensures.exact)
