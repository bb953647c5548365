use Rattle.sqlite.specs.Held.{state}
use Rattle.store_sql.proofs.Creates.{leads_on}
use Rattle.store_commits.proofs.creation.make_table.Goals as goal

pub returns-clause-leads : goal.returns-clause-leads
returns-clause-leads g c clean table rest was =
    leads_on c.args.text.now table rest (state g.S.Store c.args.tx.now.conn.now).now (state g.S.Store c.run.new.tx.conn.now).now c.in_ok-run.field-0 was (c.in_ok-run.ensures.ran clean)
