use Rattle.std.proofs.Common.{◌≡◌, map, inl, inr, subst, subst₂, rules, arith}
use Rattle.sqlite.specs.Held.{state}
use Rattle.sqlite.specs.State.{HasCleanDisk}
use Rattle.sqlite.specs.Values.{bound}
use Rattle.store_sql.specs.Ran.{HasRun}
use Rattle.store_commits.specs.Kept.{value_of}
use Rattle.store_commits.proofs.commits.put_cells.Goals as goal

pub returns-then-replaced-gt0-clause-put : goal.returns-then-replaced-gt0-clause-put
returns-then-replaced-gt0-clause-put g c clean =
    let same : bound c.as_slice.result.now ≡ map value_of c.args.cells.now = search rules in
    let old = (state g.S.Store c.args.tx.now.conn.now).now in
    let new = (state g.S.Store c.run.new.tx.conn.now).now in
    inl (c.in_ok-replaced.replaced, c.if-replaced-gt0.true, subst (λ ps. HasRun c.args.update.now ps c.in_ok-replaced.replaced old new) same (c.in_ok-replaced.ensures.ran clean))

pub returns-clause-put : goal.returns-clause-put
returns-clause-put g c clean =
    let same : bound c.as_slice.result.now ≡ map value_of c.args.cells.now = search rules in
    let again : bound c.as_slice-2.result.now ≡ map value_of c.args.cells.now = search rules in
    let none : c.in_ok-replaced.replaced ≡ 0 = omega (arith, c.if-replaced-gt0.false) in
    let old = (state g.S.Store c.args.tx.now.conn.now).now in
    let mid = (state g.S.Store c.run.new.tx.conn.now).now in
    let new = (state g.S.Store c.run-2.new.tx.conn.now).now in
    let early : HasCleanDisk (state g.S.Store c.run.new.tx.conn.now) = omega (arith, c.in_ok-run.ensures.pending.survives.clean, clean) in
    inr (
      mid,
      c.in_ok-run.field-0,
      subst₂ (λ ps n. HasRun c.args.update.now ps n old mid) same none (c.in_ok-replaced.ensures.ran early),
      subst (λ ps. HasRun c.args.insert.now ps c.in_ok-run.field-0 mid new) again (c.in_ok-run.ensures.ran clean),
    )
