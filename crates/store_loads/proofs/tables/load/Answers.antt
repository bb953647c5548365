use Rattle.std.proofs.Common.{rules}
use Rattle.sqlite.specs.Held.{state}
use Rattle.store_loads.proofs.Loading.{read_damaged, read_knows, read_tells}
use Rattle.store_loads.proofs.tables.load.Goals as goal

pub returns-clause-tells : goal.returns-clause-tells
returns-clause-tells g c = read_tells (state g.S.Store c.load_tables.new.conn) c.load_tables.result c.load_tables.ensures.known

pub returns-clause-knows : goal.returns-clause-knows
returns-clause-knows g c = read_knows (state g.S.Store c.load_tables.new.conn) c.load_tables.result c.load_tables.ensures.known

pub returns-clause-damaged : goal.returns-clause-damaged
returns-clause-damaged g c =
    read_damaged (state g.S.Store c.args.conn.now) (state g.S.Store c.load_tables.new.conn) c.load_tables.result (c.load_tables.ensures.still (c.is_autocommit.ensures.settled (search rules)))
    (λ rows clean holds. c.load_tables.ensures.whole clean rows holds.keeps holds.readable holds.sound) c.load_tables.ensures.first_whole

pub returns-clause-keeps : goal.returns-clause-keeps
returns-clause-keeps g c known = c.load_tables.ensures.keeps (c.is_autocommit.ensures.settled (search rules)) known

pub returns-clause-spared : goal.returns-clause-spared
returns-clause-spared g c = c.load_tables.ensures.spared (c.is_autocommit.ensures.settled (search rules))
