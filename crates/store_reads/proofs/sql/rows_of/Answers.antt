use Rattle.std.proofs.Common.{Ok, Err}
use Rattle.sqlite.specs.Held.{state}
use Rattle.store_reads.proofs.Causes.{query_fails}
use Rattle.store_reads.proofs.Seen.{seen_by}
use Rattle.store_reads.proofs.sql.rows_of.Goals as goal

pub returns-in-Ok-clause-seen : goal.returns-in-Ok-clause-seen
returns-in-Ok-clause-seen g c schema plain =
    seen_by schema c.args.text.now (state g.S.Store c.args.conn.now) (state g.S.Store c.query_all.new.self) (Ok c.in-Ok.rows.items) plain c.in-Ok.ensures.ok (λ _. tt) c.query_all.ensures.survives

pub returns-in-Err-clause-seen : goal.returns-in-Err-clause-seen
returns-in-Err-clause-seen g c schema plain =
    seen_by schema c.args.text.now (state g.S.Store c.args.conn.now) (state g.S.Store c.query_all.new.self) (Err c.in-Err.error) plain (λ _. tt) c.in-Err.ensures.err c.query_all.ensures.survives

pub returns-in-Err-clause-cause : goal.returns-in-Err-clause-cause
returns-in-Err-clause-cause g c lists clean has =
    query_fails c.args.text.now (state g.S.Store c.args.conn.now) (state g.S.Store c.query_all.new.self) c.in-Err.error c.from.result c.from.ensures lists (c.in-Err.ensures.err clean) has
