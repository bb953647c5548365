use Rattle.std.proofs.Common.{map, arith}
use Rattle.net_rows.specs.Rows.{empty_rows}
use Rattle.sqlite.specs.Held.{state}
use Rattle.sqlite.specs.State.{HasCleanDisk}
use Rattle.store_rows.specs.Rows.{meta_cells}
use Rattle.store_sql.specs.Ran.{IsPutBy}
use Rattle.store_sql.specs.declared.texts.TheConstants.{INSERT_META, UPDATE_META}
use Rattle.store_sql.proofs.Creates.{leads_first}
use Rattle.store_commits.specs.Kept.{Keeps, value_of}
use Rattle.store_commits.proofs.KeptChange.{where_ok}
use Rattle.store_commits.proofs.KeptFirst.{keeps_first}
use Rattle.store_commits.proofs.creation.write_first.Goals as goal

pub returns-clause-made : goal.returns-clause-made
returns-clause-made g c clean none =
    let old = (state g.S.Store c.args.tx.now.conn.now).now in
    let mid = c.make_tables.new.tx.conn.now in
    let new = (state g.S.Store c.put_next.new.tx.conn.now).now in
    let early : HasCleanDisk (state g.S.Store mid) = omega (arith, c.put_next.ensures.pending.survives.clean, clean) in
    let made = c.in_ok-make_tables.ensures.leads early (leads_first old none) in
    where_ok c.put_next.result (IsPutBy UPDATE_META.now INSERT_META.now (map value_of (meta_cells empty_rows.next)) (state g.S.Store mid).now new) (Keeps new empty_rows)
    (λ put. keeps_first (state g.S.Store mid).now new made put) (c.put_next.ensures.put clean)
