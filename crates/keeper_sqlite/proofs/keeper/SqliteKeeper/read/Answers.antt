use Rattle.std.proofs.Common.{subst, true}
use Rattle.std.specs.Prelude.{OnOk}
use Rattle.sqlite.specs.Held.{state}
use Rattle.store_loads.specs.Tells.{IsKnown}
use Rattle.keeper_sqlite.proofs.Knowing.{kept_on, known_kept}
use Rattle.keeper_sqlite.proofs.keeper.SqliteKeeper.read.Goals as goal

pub invariant_of-self : goal.invariant_of-self
invariant_of-self g c =
    let new = state g.S.Store c.load-loaded.new.conn in
    let known : IsKnown new = subst (λ r. OnOk r (IsKnown new)) c.in-Ok.is c.load-loaded.ensures.knows in
    record { is_known_once_loaded = known_kept true new (λ _. known) }

pub invariant_of-self-in-Err-1 : goal.invariant_of-self-in-Err-1
invariant_of-self-in-Err-1 g c = record {
  is_known_once_loaded = kept_on c.args.self.now.is_loaded (state g.S.Store c.args.self.now.conn) (state g.S.Store c.load-loaded.new.conn) c.args.self.now.is_known_once_loaded c.load-loaded.ensures.keeps;
}
