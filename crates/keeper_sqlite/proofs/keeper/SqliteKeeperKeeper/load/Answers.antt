use Rattle.std.proofs.Common.{is_ok}
use Rattle.sqlite.specs.Held.{state}
use Rattle.sqlite_trees.proofs.Doubt.{no_doubt}
use Rattle.store_loads.specs.Told.{store_tells}
use Rattle.keeper_sqlite.proofs.Leaving.{if_told, load_leaves, still_clean}
use Rattle.keeper_sqlite.proofs.keeper.SqliteKeeperKeeper.load.Goals as goal

pub returns-clause-clean : goal.returns-clause-clean
returns-clause-clean g c = still_clean (state g.S.Store c.args.self.now.conn) (state g.S.Store c.read.new.self.conn) c.read.ensures.clean

pub returns-clause-crash : goal.returns-clause-crash
returns-clause-crash g c clean =
    let old = state g.S.Store c.args.self.now.conn in
    let new = state g.S.Store c.read.new.self.conn in
    if_told (store_tells old) _ (λ rows told. load_leaves old new (is_ok c.read.result) rows told (no_doubt new.is_clean clean) c.read.ensures.seen c.read.ensures.first_crash)
