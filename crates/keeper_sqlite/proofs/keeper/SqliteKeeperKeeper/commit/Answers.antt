use Rattle.std.proofs.Common.{◌≡◌, ◌∙◌, None, OnOk, arith, inl, subst, sym}
use Rattle.std.specs.Prelude.{IfSome}
use Rattle.net_rows.specs.Damage.{damage}
use Rattle.net_rows.specs.Rows.{after}
use Rattle.sqlite.specs.Held.{state}
use Rattle.sqlite_trees.proofs.Doubt.{no_doubt}
use Rattle.store_commits.specs.Kept.{Makes}
use Rattle.store_commits.specs.Pending.{IsSettled}
use Rattle.store_loads.specs.Told.{store_tells}
use Rattle.store_rows.specs.Readable.{IsReadableChange}
use Rattle.keeper_sqlite.specs.Left.{MayBeFound}
use Rattle.keeper_sqlite.proofs.Knowing.{kept_known}
use Rattle.keeper_sqlite.proofs.Leaving.{by_flag, commit_keeps, commit_leaves, if_ok, if_told, still_clean}
use Rattle.keeper_sqlite.proofs.keeper.SqliteKeeperKeeper.commit.Goals as goal

pub returns-clause-clean : goal.returns-clause-clean
returns-clause-clean g c =
    still_clean (state g.S.Store c.args.self.now.conn) (state g.S.Store c.keep.new.self.conn) (λ clean. omega (arith, c.keep.ensures.crash.clean, clean))

pub returns-clause-crash : goal.returns-clause-crash
returns-clause-crash g c clean =
    let old = state g.S.Store c.args.self.now.conn in
    let new = state g.S.Store c.keep.new.self.conn in
    let loaded = c.args.self.now.is_loaded in
    if_told (store_tells old) _ (λ rows told found finds.
    let none : damage (after rows c.args.change.now) ≡ None = subst (λ o. IfSome o (λ r. damage (after r c.args.change.now) ≡ None)) told c.requires.sound in
    by_flag loaded
    (λ yes. commit_leaves old new c.args.change.now rows told (kept_known loaded old yes c.args.self.now.is_known_once_loaded) (no_doubt new.is_clean clean) c.keep.ensures.crash none found finds)
    (λ no. inl (subst (λ h. MayBeFound (state g.S.Store h) found) (c.keep.ensures.waits no).1 finds)))

pub returns-clause-durable : goal.returns-clause-durable
returns-clause-durable g c clean =
    let old = state g.S.Store c.args.self.now.conn in
    let new = state g.S.Store c.keep.new.self.conn in
    let loaded = c.args.self.now.is_loaded in
    if_told (store_tells old) _ (λ rows told. if_ok c.keep.result _ (λ x ok found finds.
    let none : damage (after rows c.args.change.now) ≡ None = subst (λ o. IfSome o (λ r. damage (after r c.args.change.now) ≡ None)) told c.requires.sound in
    let settled = subst (λ r. OnOk r (IsSettled new)) ok (c.keep.ensures.ok (no_doubt new.is_clean clean)) in
    let makes = subst (λ r. OnOk r (Makes old.now new.now (λ r. after r c.args.change.now))) ok (c.keep.ensures.made (no_doubt new.is_clean clean)) in
    let good = subst (λ r. OnOk r (IsReadableChange c.args.change.now)) ok c.keep.ensures.readable in
    by_flag loaded
    (λ yes. commit_keeps old new c.args.change.now rows told (kept_known loaded old yes c.args.self.now.is_known_once_loaded) settled makes good none found finds)
    (λ no. absurd (let clash = sym ok ∙ (c.keep.ensures.waits no).0 in cc))))
