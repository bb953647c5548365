use Rattle.std.proofs.Common.{true, rules, arith}
use Rattle.sqlite.specs.Held.{state}
use Rattle.sqlite.specs.State.{HasCleanDisk}
use Rattle.store_rows.specs.Readable.{IsReadableRow}
use Rattle.store_commits.proofs.KeptChange.{one_more_put, one_more_readable}
use Rattle.store_commits.proofs.Pending.{then}
use Rattle.store_commits.proofs.commits.put_all.Goals as goal

pub loop-row-preserved : goal.loop-row-preserved
loop-row-preserved g c =
    let old = c.args.tx.now.conn.now in
    let mid = c.loop-row.tx.conn.now in
    let new = c.put_row.new.tx.conn.now in
    record {
      same = search rules;
      pending = then g.S.Store old mid new true c.loop-row.invariant.pending c.in_ok-put_row.ensures.pending;
      made = λ clean.
          let early : HasCleanDisk (state g.S.Store mid) = omega (arith, c.in_ok-put_row.ensures.pending.survives.clean, clean) in
          one_more_put (state g.S.Store old).now (state g.S.Store mid).now (state g.S.Store new).now c.args.puts.now c.loop-row.row-index c.row-item.result c.loop-row-test.true c.row-item.is
          (c.loop-row.invariant.made early) (c.in_ok-put_row.ensures.made clean);
      readable = one_more_readable IsReadableRow c.args.puts.now c.loop-row.row-index c.row-item.result c.loop-row-test.true c.row-item.is c.loop-row.invariant.readable c.in_ok-put_row.ensures.readable;
    }
