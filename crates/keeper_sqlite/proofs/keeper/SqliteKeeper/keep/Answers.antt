use Rattle.std.proofs.Common.{◌≡◌, arith, rules, subst, sym}
use Rattle.io_edge.specs.Edge.{StillTells}
use Rattle.sqlite.specs.Held.{state}
use Rattle.store_loads.specs.Told.{store_tells}
use Rattle.keeper_sqlite.proofs.Changing.{known_after, still_err, still_ok}
use Rattle.keeper_sqlite.proofs.Knowing.{kept_known, kept_on}
use Rattle.keeper_sqlite.proofs.keeper.SqliteKeeper.keep.Goals as goal

pub returns-in-Ok-clause-still_ok : goal.returns-in-Ok-clause-still_ok
returns-in-Ok-clause-still_ok g c =
    let old = state g.S.Store c.args.self.now.conn in
    still_ok old (state g.S.Store c.commit.new.conn) c.args.change.now (λ clean. omega (arith, c.commit.ensures.crash.clean, clean)) c.commit.ensures.opened
    (kept_known c.args.self.now.is_loaded old (search rules) c.args.self.now.is_known_once_loaded) c.requires.sound c.in-Ok.ensures.made c.in-Ok.ensures.readable

pub returns-in-Err-NoMemory-clause-still_err : goal.returns-in-Err-NoMemory-clause-still_err
returns-in-Err-NoMemory-clause-still_err g c =
    still_err (state g.S.Store c.args.self.now.conn) (state g.S.Store c.commit.new.conn) (λ clean. omega (arith, c.commit.ensures.crash.clean, clean)) c.commit.ensures.opened c.in-Err-NoMemory.ensures.err

pub returns-in-Err-Failed-clause-still_err : goal.returns-in-Err-Failed-clause-still_err
returns-in-Err-Failed-clause-still_err g c =
    let old = state g.S.Store c.args.self.now.conn in
    let same : c.raise-in-Err-Failed.new.self.conn ≡ c.commit.new.conn = search rules in
    subst (λ h. StillTells (store_tells old) (store_tells (state g.S.Store h))) (sym same)
    (still_err old (state g.S.Store c.commit.new.conn) (λ clean. omega (arith, c.commit.ensures.crash.clean, clean)) c.commit.ensures.opened c.in-Err-Failed.ensures.err)

pub invariant_of-self : goal.invariant_of-self
invariant_of-self g c =
    let old = state g.S.Store c.args.self.now.conn in
    let new = state g.S.Store c.commit.new.conn in
    record {
      is_known_once_loaded = kept_on c.args.self.now.is_loaded old new c.args.self.now.is_known_once_loaded
          (known_after old new c.args.change.now c.commit.result (λ clean. omega (arith, c.commit.ensures.crash.clean, clean)) c.commit.ensures.opened c.requires.sound c.commit.ensures.made c.commit.ensures.err c.commit.ensures.readable);
    }
