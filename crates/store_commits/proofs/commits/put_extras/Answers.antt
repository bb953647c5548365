use Rattle.std.proofs.Common.{◌≡◌, ◌+◌, refl, true, rules, arith}
use Rattle.sqlite.specs.Held.{state}
use Rattle.sqlite.specs.State.{HasCleanDisk}
use Rattle.store_rows.specs.Readable.{IsReadableExtra}
use Rattle.store_commits.proofs.KeptChange.{one_more_extra, one_more_readable}
use Rattle.store_commits.proofs.KeptSteps.{extras_gone}
use Rattle.store_commits.proofs.Pending.{then}
use Rattle.store_commits.proofs.commits.put_extras.Goals as goal

pub loop-extra-init : goal.loop-extra-init
loop-extra-init g c =
    let old = (state g.S.Store c.args.tx.now.conn.now).now in
    let new = (state g.S.Store c.run.new.tx.conn.now).now in
    record {
      last = refl;
      same = search rules;
      pending = c.in_ok-run.ensures.pending;
      made = λ clean. extras_gone old new c.in_ok-run.field-0 (c.in_ok-run.ensures.ran clean);
      readable = tt;
    }

pub loop-extra-preserved : goal.loop-extra-preserved
loop-extra-preserved g c =
    let old = c.args.tx.now.conn.now in
    let mid = c.loop-extra.tx.conn.now in
    let new = c.add_extra.new.tx.conn.now in
    let next : c.in_ok-place.place ≡ c.loop-extra.extra-index + 1 = search rules in
    record {
      last = next;
      same = search rules;
      pending = then g.S.Store old mid new true c.loop-extra.invariant.pending c.in_ok-add_extra.ensures.pending;
      made = λ clean.
          let early : HasCleanDisk (state g.S.Store mid) = omega (arith, c.in_ok-add_extra.ensures.pending.survives.clean, clean) in
          one_more_extra (state g.S.Store old).now (state g.S.Store mid).now (state g.S.Store new).now c.args.extras.now c.loop-extra.extra-index c.in_ok-place.place c.extra-item.result
          c.loop-extra-test.true c.extra-item.is next (c.loop-extra.invariant.made early) (c.in_ok-add_extra.ensures.added clean);
      readable = one_more_readable IsReadableExtra c.args.extras.now c.loop-extra.extra-index c.extra-item.result c.loop-extra-test.true c.extra-item.is c.loop-extra.invariant.readable c.in_ok-add_extra.ensures.readable;
    }
