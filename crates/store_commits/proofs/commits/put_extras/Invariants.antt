use Rattle.std.proofs.Common.{◌≡◌, true, take}
use Rattle.std.specs.List.{AllByRecursion}
use Rattle.sqlite.specs.Held.{state}
use Rattle.sqlite.specs.State.{HasCleanDisk}
use Rattle.store_rows.specs.Readable.{IsReadableExtra}
use Rattle.store_commits.specs.Kept.{Makes}
use Rattle.store_commits.specs.Pending.{IsPending}
use Rattle.store_commits.proofs.commits.put_extras.Given as goal

abbrev pub invariant-loop-extra : goal.invariant-loop-extra
invariant-loop-extra g l = record {
  last : l.last ≡ l.extra-index;
  same : l.tx.conn.ghost_name ≡ l.fn.tx.conn.ghost_name;
  pending : IsPending g.S.Store l.fn.tx.conn.now l.tx.conn.now true;
  made : HasCleanDisk (state g.S.Store l.tx.conn.now) → Makes (state g.S.Store l.fn.tx.conn.now).now (state g.S.Store l.tx.conn.now).now (λ rows. record rows { extras = take l.extra-index l.extras });
  readable : AllByRecursion IsReadableExtra (take l.extra-index l.extras);
}
