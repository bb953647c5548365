use Rattle.std.proofs.Common.{arith}
use Rattle.sqlite.specs.Held.{state}
use Rattle.sqlite.specs.State.{HasCleanDisk}
use Rattle.store_commits.proofs.creation.make_tables.Goals as goal

pub returns-clause-leads : goal.returns-clause-leads
returns-clause-leads g c clean was =
    let late : HasCleanDisk (state g.S.Store c.make_machine_tables.new.tx.conn.now) = omega (arith, c.make_text_tables.ensures.pending.survives.clean, clean) in
    let early : HasCleanDisk (state g.S.Store c.make_owner_tables.new.tx.conn.now) = omega (arith, c.in_ok-make_machine_tables.ensures.pending.survives.clean, late) in
    c.make_text_tables.ensures.leads clean (c.in_ok-make_machine_tables.ensures.leads late (c.in_ok-make_owner_tables.ensures.leads early was))
