use Rattle.std.proofs.Common.{[]}
use Rattle.std.proofs.lemmas.Result.{IfOk-weaker}
use Rattle.net_rows.specs.declared.change.Kind.TheVariants as kind
use Rattle.sqlite.specs.Held.{state}
use Rattle.sqlite.specs.State.{Shown}
use Rattle.store_rows.specs.Reading.{auth_key_of}
use Rattle.store_rows.specs.Rows.{IsTypedKey, auth_key_cells}
use Rattle.store_rows.proofs.TableReads.{auth_key_reads}
use Rattle.store_sql.specs.declared.texts.TheConstants.{SELECT_AUTH_KEYS}
use Rattle.store_sql.proofs.Selects.{select_auth_keys_means}
use Rattle.store_reads.proofs.BackLemmas.{keys_stand}
use Rattle.store_reads.proofs.Causes.{auth_keys_listed}
use Rattle.store_reads.proofs.DamageLemmas.{finds_all, keys_listing}
use Rattle.store_reads.proofs.OursLemmas.{auth_key_ours}
use Rattle.store_reads.proofs.ShownRows.{shown_keys}
use Rattle.store_reads.proofs.whole.read_keys.Goals as goal

pub returns-clause-seen : goal.returns-clause-seen
returns-clause-seen g c = c.read_all.ensures.seen select_auth_keys_means.plain

pub returns-clause-read : goal.returns-clause-read
returns-clause-read g c clean all keeps good =
    c.read_all.ensures.read clean all.keys (λ rows shown. shown_keys (state g.S.Store c.args.conn.now) (state g.S.Store c.read_all.new.conn) all rows keeps shown) good.keys

pub returns-clause-back : goal.returns-clause-back
returns-clause-back g c clean ours =
    IfOk-weaker c.read_all.result _ _ (λ xs h. (keys_stand (state g.S.Store c.args.conn.now) (state g.S.Store c.read_all.new.conn) xs ours h.0, h.1)) (c.read_all.ensures.back clean)

pub returns-clause-cause : goal.returns-clause-cause
returns-clause-cause g c = c.read_all.ensures.cause auth_keys_listed

pub returns-clause-finds : goal.returns-clause-finds
returns-clause-finds g c clean has live =
    let old = state g.S.Store c.args.conn.now in
    let new = state g.S.Store c.read_all.new.conn in
    finds_all auth_key_cells IsTypedKey auth_key_of auth_key_reads auth_key_ours kind.Key 7 (old.now.trees 3) (Shown SELECT_AUTH_KEYS.now [] old new) c.read_all.result (λ rows shown. keys_listing old new rows has live shown) (c.read_all.ensures.back clean) (c.read_all.ensures.unread clean)
