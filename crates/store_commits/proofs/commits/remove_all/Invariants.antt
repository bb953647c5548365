use Rattle.std.proofs.Common.{◌≡◌, true, take}
use Rattle.net_rows.specs.Rows.{take_all_out}
use Rattle.sqlite.specs.Held.{state}
use Rattle.sqlite.specs.State.{HasCleanDisk}
use Rattle.store_commits.specs.Kept.{Makes}
use Rattle.store_commits.specs.Pending.{IsPending}
use Rattle.store_commits.proofs.commits.remove_all.Given as goal

abbrev pub invariant-loop-key : goal.invariant-loop-key
invariant-loop-key g l = record {
  same : l.tx.conn.ghost_name ≡ l.fn.tx.conn.ghost_name;
  pending : IsPending g.S.Store l.fn.tx.conn.now l.tx.conn.now true;
  made : HasCleanDisk (state g.S.Store l.tx.conn.now) → Makes (state g.S.Store l.fn.tx.conn.now).now (state g.S.Store l.tx.conn.now).now (λ rows. take_all_out rows (take l.key-index l.gone));
}
