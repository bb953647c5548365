use Rattle.sqlite.specs.Held.{state}
use Rattle.keeper_sqlite.proofs.Knowing.{kept_new}
use Rattle.keeper_sqlite.proofs.keeper.SqliteKeeper.adopt.Goals as goal

pub invariant_of-result : goal.invariant_of-result
invariant_of-result g c = record { is_known_once_loaded = kept_new (state g.S.Store c.args.conn) }
