use Rattle.std.proofs.Common.{◌≡◌, drop}
use Rattle.map_delta.specs.Puts.{put_rows}
use Rattle.map_delta.proofs.puts.put_rows.Given as goal

abbrev pub invariant-loop-row : goal.invariant-loop-row
invariant-loop-row g l = put_rows g.T.Listed.number l.rows.items (drop l.row-index l.more) ≡ put_rows g.T.Listed.number l.fn.rows.items l.more
