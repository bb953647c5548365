use Rattle.std.proofs.Common.{true, rules, arith}
use Rattle.sqlite.specs.Held.{state}
use Rattle.sqlite.specs.State.{HasCleanDisk}
use Rattle.store_commits.proofs.KeptChange.{one_more_out}
use Rattle.store_commits.proofs.Pending.{then}
use Rattle.store_commits.proofs.commits.remove_all.Goals as goal

pub loop-key-preserved : goal.loop-key-preserved
loop-key-preserved g c =
    let old = c.args.tx.now.conn.now in
    let mid = c.loop-key.tx.conn.now in
    let new = c.remove.new.tx.conn.now in
    record {
      same = search rules;
      pending = then g.S.Store old mid new true c.loop-key.invariant.pending c.in_ok-remove.ensures.pending;
      made = λ clean.
          let early : HasCleanDisk (state g.S.Store mid) = omega (arith, c.in_ok-remove.ensures.pending.survives.clean, clean) in
          one_more_out (state g.S.Store old).now (state g.S.Store mid).now (state g.S.Store new).now c.args.gone.now c.loop-key.key-index _ c.loop-key-test.true (search rules)
          (c.loop-key.invariant.made early) (c.in_ok-remove.ensures.made clean);
    }
