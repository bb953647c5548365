use Rattle.std.proofs.Common.{[]}
use Rattle.std.proofs.lemmas.Result.{IfOk-weaker}
use Rattle.net_rows.specs.declared.change.Kind.TheVariants as kind
use Rattle.sqlite.specs.Held.{state}
use Rattle.sqlite.specs.State.{Shown}
use Rattle.store_rows.specs.Reading.{user_in_cells}
use Rattle.store_rows.specs.Rows.{IsTypedUser, user_cells}
use Rattle.store_rows.proofs.TableReads.{user_reads}
use Rattle.store_sql.specs.declared.texts.TheConstants.{SELECT_USERS}
use Rattle.store_sql.proofs.Selects.{select_users_means}
use Rattle.store_reads.proofs.BackLemmas.{users_stand}
use Rattle.store_reads.proofs.Causes.{users_listed}
use Rattle.store_reads.proofs.DamageLemmas.{finds_all, users_listing}
use Rattle.store_reads.proofs.OursLemmas.{user_ours}
use Rattle.store_reads.proofs.ShownRows.{shown_users}
use Rattle.store_reads.proofs.whole.read_users.Goals as goal

pub returns-clause-seen : goal.returns-clause-seen
returns-clause-seen g c = c.read_all.ensures.seen select_users_means.plain

pub returns-clause-read : goal.returns-clause-read
returns-clause-read g c clean all keeps good =
    c.read_all.ensures.read clean all.users (λ rows shown. shown_users (state g.S.Store c.args.conn.now) (state g.S.Store c.read_all.new.conn) all rows keeps shown) good.users

pub returns-clause-back : goal.returns-clause-back
returns-clause-back g c clean ours =
    IfOk-weaker c.read_all.result _ _ (λ xs h. (users_stand (state g.S.Store c.args.conn.now) (state g.S.Store c.read_all.new.conn) xs ours h.0, h.1)) (c.read_all.ensures.back clean)

pub returns-clause-cause : goal.returns-clause-cause
returns-clause-cause g c = c.read_all.ensures.cause users_listed

pub returns-clause-finds : goal.returns-clause-finds
returns-clause-finds g c clean has live =
    let old = state g.S.Store c.args.conn.now in
    let new = state g.S.Store c.read_all.new.conn in
    finds_all user_cells IsTypedUser user_in_cells user_reads user_ours kind.User 1 (old.now.trees 1) (Shown SELECT_USERS.now [] old new) c.read_all.result (λ rows shown. users_listing old new rows has live shown) (c.read_all.ensures.back clean) (c.read_all.ensures.unread clean)
