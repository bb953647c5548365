use Rattle.std.proofs.Common.{◌≡◌, ◌∙◌, ap, map, sym}
use Rattle.store_reads.specs.Readable.{cell_in}
use Rattle.store_reads.proofs.BackLemmas.{read_back}
use Rattle.store_reads.proofs.GivenBack.{all_given_back}
use Rattle.store_reads.proofs.listed.read_row.Goals as goal

pub returns : goal.returns
returns g c = record {
  read = λ x shows good.
      let cells : c.as_slice.result.now ≡ g.T.Loaded.stored x = c.as_slice.ensures.value ∙ c.in_ok-cells.ensures.value ∙ ap (map cell_in) shows ∙ all_given_back (g.T.Loaded.stored x) good.1 in
      c.in_ok-read.ensures.exact.only x good.0 (sym cells);
  err = tt;
  back = read_back g.T.Loaded.stored g.T.Loaded.Typed c.as_slice.result.now c.args.row.now _ c.cells_are_of_ours.ensures.ours (c.as_slice.ensures.value ∙ c.in_ok-cells.ensures.value) c.in_ok-read.ensures.exact;
}
