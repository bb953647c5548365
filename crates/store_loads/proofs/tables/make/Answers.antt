use Rattle.std.proofs.Common.{◌≡◌, arith, length, rules}
use Rattle.sqlite.specs.Held.{state}
use Rattle.sqlite.specs.State.{HasCleanDisk}
use Rattle.store_loads.proofs.Loading.{first_made, lists_nothing}
use Rattle.store_loads.proofs.tables.make.Goals as goal

pub returns-in-Ok-clause-left : goal.returns-in-Ok-clause-left
returns-in-Ok-clause-left g c rest none clean opened =
    let old = state g.S.Store c.args.conn.now in
    let mid = state g.S.Store c.listed.new.conn in
    let new = state g.S.Store c.create.new.conn in
    let early : HasCleanDisk mid = omega (arith, c.create.ensures.crash.clean, clean) in
    let empty : length c.in-Ok.listed.items ≡ 0 = search rules in
    first_made old mid new c.create.result c.in-Ok.ensures.seen none early (c.create.ensures.opened clean opened) opened (c.create.ensures.made clean) (c.create.ensures.err clean)
    (lists_nothing old mid c.in-Ok.listed.items none empty (c.in-Ok.ensures.shown early))
