use Rattle.std.proofs.Common.{◌≡◌, true, take}
use Rattle.std.specs.List.{AllByRecursion}
use Rattle.net_rows.specs.Rows.{put_all}
use Rattle.store_rows.specs.Readable.{IsReadableRow}
use Rattle.sqlite.specs.Held.{state}
use Rattle.sqlite.specs.State.{HasCleanDisk}
use Rattle.store_commits.specs.Kept.{Makes}
use Rattle.store_commits.specs.Pending.{IsPending}
use Rattle.store_commits.proofs.commits.put_all.Given as goal

abbrev pub invariant-loop-row : goal.invariant-loop-row
invariant-loop-row g l = record {
  same : l.tx.conn.ghost_name ≡ l.fn.tx.conn.ghost_name;
  pending : IsPending g.S.Store l.fn.tx.conn.now l.tx.conn.now true;
  made : HasCleanDisk (state g.S.Store l.tx.conn.now) → Makes (state g.S.Store l.fn.tx.conn.now).now (state g.S.Store l.tx.conn.now).now (λ rows. put_all rows (take l.row-index l.puts));
  readable : AllByRecursion IsReadableRow (take l.row-index l.puts);
}
