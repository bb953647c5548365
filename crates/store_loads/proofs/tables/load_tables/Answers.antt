use Rattle.net_rows.specs.Rows.{empty_rows}
use Rattle.net_rows.proofs.Empty.{damage-empty}
use Rattle.std.proofs.Common.{ap, arith, is_ok, subst, sym}
use Rattle.sqlite.specs.Held.{state}
use Rattle.store_loads.specs.Tells.{IsKnown}
use Rattle.store_loads.specs.Told.{store_tells}
use Rattle.store_loads.proofs.Firsts.{empty_readable}
use Rattle.store_loads.proofs.Loading.{known_first, known_seen, spared_seen, still_first, still_seen, still_then}
use Rattle.store_loads.proofs.Naming.{named_before, named_read}
use Rattle.store_loads.proofs.tables.load_tables.Goals as goal

pub returns-in-Ok-clause-first_whole : goal.returns-in-Ok-clause-first_whole
returns-in-Ok-clause-first_whole g c clean none =
    c.read_tables.ensures.whole clean empty_rows (c.in-Ok.ensures.first (c.read_tables.ensures.seen.clean clean) none) empty_readable damage-empty

pub returns-in-Ok-clause-still : goal.returns-in-Ok-clause-still
returns-in-Ok-clause-still g c rest =
    let old = state g.S.Store c.args.conn.now in
    let mid = state g.S.Store c.prepare.new.conn in
    let new = state g.S.Store c.read_tables.new.conn in
    still_then (store_tells old) (store_tells mid) (store_tells new)
    (still_first old mid rest (λ clean none. omega (arith, (c.prepare.ensures.crash clean none).clean, clean)) (λ none clean opened. c.prepare.ensures.left rest none clean opened)
    (λ other. ap (λ h. store_tells (state g.S.Store h)) (c.prepare.ensures.other other)))
    (still_seen mid new (is_ok c.read_tables.result) c.read_tables.ensures.seen c.in-Ok.ensures.ours (λ clean. c.in-Ok.ensures.rest clean rest))

pub returns-in-Err-clause-still : goal.returns-in-Err-clause-still
returns-in-Err-clause-still g c rest =
    let old = state g.S.Store c.args.conn.now in
    let mid = state g.S.Store c.prepare.new.conn in
    still_first old mid rest (λ clean none. omega (arith, (c.prepare.ensures.crash clean none).clean, clean)) (λ none clean opened. c.prepare.ensures.left rest none clean opened)
    (λ other. ap (λ h. store_tells (state g.S.Store h)) (c.prepare.ensures.other other))

pub returns-in-Ok-clause-keeps : goal.returns-in-Ok-clause-keeps
returns-in-Ok-clause-keeps g c rest known =
    let old = state g.S.Store c.args.conn.now in
    let mid = state g.S.Store c.prepare.new.conn in
    let new = state g.S.Store c.read_tables.new.conn in
    known_seen mid new (is_ok c.read_tables.result) c.read_tables.ensures.seen c.in-Ok.ensures.ours (λ clean. c.in-Ok.ensures.rest clean rest)
    (known_first old mid (λ clean none. omega (arith, (c.prepare.ensures.crash clean none).clean, clean)) (λ none clean opened. c.prepare.ensures.left rest none clean opened)
    (λ other. subst (λ h. IsKnown (state g.S.Store h)) (sym (c.prepare.ensures.other other)) known) known)

pub returns-in-Err-clause-keeps : goal.returns-in-Err-clause-keeps
returns-in-Err-clause-keeps g c rest known =
    let old = state g.S.Store c.args.conn.now in
    let mid = state g.S.Store c.prepare.new.conn in
    known_first old mid (λ clean none. omega (arith, (c.prepare.ensures.crash clean none).clean, clean)) (λ none clean opened. c.prepare.ensures.left rest none clean opened)
    (λ other. subst (λ h. IsKnown (state g.S.Store h)) (sym (c.prepare.ensures.other other)) known) known

pub returns-in-Ok-clause-spared : goal.returns-in-Ok-clause-spared
returns-in-Ok-clause-spared g c rest none clean opened =
    spared_seen (state g.S.Store c.args.conn.now) (state g.S.Store c.prepare.new.conn) (state g.S.Store c.read_tables.new.conn) (is_ok c.read_tables.result) c.read_tables.ensures.seen c.in-Ok.ensures.ours opened clean
    (λ early was. c.prepare.ensures.left rest none early was)

pub returns-in-Ok-clause-named : goal.returns-in-Ok-clause-named
returns-in-Ok-clause-named g c clean =
    let old = state g.S.Store c.args.conn.now in
    let mid = state g.S.Store c.prepare.new.conn in
    named_read old.now mid.now c.read_tables.result (λ ours. ap (λ h. (state g.S.Store h).now) (c.in-Ok.ensures.there ours).1) c.in-Ok.ensures.ours
    (c.read_tables.ensures.named clean c.in-Ok.ensures.ours c.in-Ok.ensures.live)
    (λ none. c.read_tables.ensures.whole clean empty_rows (c.in-Ok.ensures.first (c.read_tables.ensures.seen.clean clean) none) empty_readable damage-empty)
    (λ ours none. let e = c.in-Ok.ensures.foreign ours none in cc)

pub returns-in-Err-clause-named : goal.returns-in-Err-clause-named
returns-in-Err-clause-named g c clean =
    named_before (state g.S.Store c.args.conn.now).now c.in-Err.fault (λ ours. let e = (c.in-Err.ensures.there ours).0 in cc)
    (c.in-Err.ensures.first clean)
    (λ ours none. let e = c.in-Err.ensures.foreign ours none in cc)
