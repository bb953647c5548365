use Rattle.std.proofs.Common.{arith}
use Rattle.sqlite.specs.Held.{state}
use Rattle.sqlite.specs.State.{HasCleanDisk}
use Rattle.store_commits.proofs.creation.make_machine_tables.Goals as goal

pub returns-clause-leads : goal.returns-clause-leads
returns-clause-leads g c clean was =
    let clean_1 : HasCleanDisk (state g.S.Store c.make_table.new.tx.conn.now) = omega (arith, c.make_table-2.ensures.pending.survives.clean, clean) in
    let after_1 = c.in_ok-make_table.ensures.leads clean_1 _ _ was in
    c.make_table-2.ensures.leads clean _ _ after_1
