use Rattle.std.proofs.Common.{refl}
use Rattle.keeper_sqlite.specs.Left.{rows_left}
use Rattle.sqlite.specs.Held.{state}
use Rattle.sqlite_trees.proofs.Doubt.{clean_of}
use Rattle.crash_laws.proofs.Surviving.{survive_alone, survive_first, survive_last}
use Rattle.crash_laws.proofs.Trees.{alone_of, trees_of}
use Rattle.crash_laws.proofs.laws.acknowledged_asks_survive.Goals as goal

pub returns : goal.returns
returns g c = record {
  end = λ d turns q chain none leave clean tells.
      trees_of (state g.S.Store q.keeper.conn) q.state.rows
      (survive_alone _ _ _ _ _ d turns q chain none (alone_of (state g.S.Store d.keeper.conn) d.state.rows leave) (clean_of _ clean) tells);
  last = λ d turns m e reply q chain none leave turn clean tells trees may.
      survive_last _ _ _ _ _ d turns m e reply q chain none (alone_of (state g.S.Store d.keeper.conn) d.state.rows leave) turn (clean_of _ clean) tells
      (rows_left trees) (record { trees = trees; may = may; is = refl });
  first = λ m e answer q turn changes clean tells.
      trees_of (state g.S.Store q.keeper.conn) q.state.rows (survive_first _ _ _ _ _ m e answer q turn changes (clean_of _ clean) tells);
}
