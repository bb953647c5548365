use Rattle.std.proofs.Common.{List, map, subst, arith}
use Rattle.net_rows.specs.Rows.{after, put_all, take_all_out}
use Rattle.net_rows.specs.declared.change.Row.{Row}
use Rattle.net_rows.specs.declared.change.RowKey.{RowKey}
use Rattle.net_rows.specs.declared.rows.Rows.{Rows}
use Rattle.sqlite.specs.Held.{state}
use Rattle.sqlite.specs.State.{HasCleanDisk}
use Rattle.store_rows.specs.Rows.{meta_cells}
use Rattle.store_sql.specs.Ran.{IsPutBy}
use Rattle.store_sql.specs.declared.texts.TheConstants.{INSERT_META, UPDATE_META}
use Rattle.store_commits.specs.Kept.{Makes, value_of}
use Rattle.store_commits.proofs.KeptChange.{where_ok}
use Rattle.store_commits.proofs.KeptSteps.{next_put}
use Rattle.store_commits.proofs.commits.write.Goals as goal

pub returns-clause-made : goal.returns-clause-made
returns-clause-made g c clean =
    let change = c.args.change.now in
    let old = (state g.S.Store c.args.tx.now.conn.now).now in
    let out = c.remove_all.new.tx.conn.now in
    let mid = c.put_all.new.tx.conn.now in
    let new = (state g.S.Store c.put_next.new.tx.conn.now).now in
    let late : HasCleanDisk (state g.S.Store mid) = omega (arith, c.put_next.ensures.pending.survives.clean, clean) in
    let early : HasCleanDisk (state g.S.Store out) = omega (arith, c.in_ok-put_all.ensures.pending.survives.clean, late) in
    let first : Makes old (state g.S.Store out).now (λ (rows : Rows). take_all_out rows change.gone) =
    subst (λ (keys : List RowKey). Makes old (state g.S.Store out).now (λ (rows : Rows). take_all_out rows keys)) c.as_slice.ensures.value (c.in_ok-remove_all.ensures.made early) in
    let second : Makes (state g.S.Store out).now (state g.S.Store mid).now (λ (rows : Rows). put_all rows change.puts) =
    subst (λ (puts : List Row). Makes (state g.S.Store out).now (state g.S.Store mid).now (λ (rows : Rows). put_all rows puts)) c.as_slice-2.ensures.value (c.in_ok-put_all.ensures.made late) in
    where_ok c.put_next.result (IsPutBy UPDATE_META.now INSERT_META.now (map value_of (meta_cells change.next)) (state g.S.Store mid).now new) (Makes old new (λ (rows : Rows). after rows change))
    (λ put rows was. next_put (state g.S.Store mid).now new change.next put _ (second _ (first rows was)))
    (c.put_next.ensures.put clean)
