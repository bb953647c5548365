use Rattle.net_rows.proofs.MapLemmas.{row_at-put_row, row_at-without}
use Rattle.net_rows.proofs.PutLemmas.{IsAscending-put}
use Rattle.net_rows.proofs.RemoveLemmas.{IsAscending-without}
use Rattle.net_rows.proofs.RowAt.{same_rows}
use Rattle.net_rows.proofs.laws.rows_are_maps.Goals as goal

pub returns : goal.returns
returns g c = record {
  same = same_rows g.T.HasId.id;
  put = row_at-put_row g.T.HasId.id;
  put_ascends = IsAscending-put g.T.HasId.id;
  removed = row_at-without g.T.HasId.id;
  removal_ascends = IsAscending-without g.T.HasId.id;
}
