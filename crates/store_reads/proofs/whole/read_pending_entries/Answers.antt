use Rattle.std.proofs.Common.{[]}
use Rattle.std.proofs.lemmas.Result.{IfOk-weaker}
use Rattle.net_rows.specs.declared.change.Kind.TheVariants as kind
use Rattle.sqlite.specs.Held.{state}
use Rattle.sqlite.specs.State.{Shown}
use Rattle.store_rows.specs.Reading.{pending_in_cells}
use Rattle.store_rows.specs.Rows.{IsTypedPending, pending_cells}
use Rattle.store_rows.proofs.TableReads.{pending_reads}
use Rattle.store_sql.specs.declared.texts.TheConstants.{SELECT_PENDING}
use Rattle.store_sql.proofs.Selects.{select_pending_means}
use Rattle.store_reads.proofs.BackLemmas.{pending_stand}
use Rattle.store_reads.proofs.Causes.{pending_listed}
use Rattle.store_reads.proofs.DamageLemmas.{finds_all, pending_listing}
use Rattle.store_reads.proofs.OursLemmas.{pending_ours}
use Rattle.store_reads.proofs.ShownRows.{shown_pending}
use Rattle.store_reads.proofs.whole.read_pending_entries.Goals as goal

pub returns-clause-seen : goal.returns-clause-seen
returns-clause-seen g c = c.read_all.ensures.seen select_pending_means.plain

pub returns-clause-read : goal.returns-clause-read
returns-clause-read g c clean all keeps good =
    c.read_all.ensures.read clean all.pending (λ rows shown. shown_pending (state g.S.Store c.args.conn.now) (state g.S.Store c.read_all.new.conn) all rows keeps shown) good.pending

pub returns-clause-back : goal.returns-clause-back
returns-clause-back g c clean ours =
    IfOk-weaker c.read_all.result _ _ (λ xs h. (pending_stand (state g.S.Store c.args.conn.now) (state g.S.Store c.read_all.new.conn) xs ours h.0, h.1)) (c.read_all.ensures.back clean)

pub returns-clause-cause : goal.returns-clause-cause
returns-clause-cause g c = c.read_all.ensures.cause pending_listed

pub returns-clause-finds : goal.returns-clause-finds
returns-clause-finds g c clean has live =
    let old = state g.S.Store c.args.conn.now in
    let new = state g.S.Store c.read_all.new.conn in
    finds_all pending_cells IsTypedPending pending_in_cells pending_reads pending_ours kind.Pending 9 (old.now.trees 5) (Shown SELECT_PENDING.now [] old new) c.read_all.result (λ rows shown. pending_listing old new rows has live shown) (c.read_all.ensures.back clean) (c.read_all.ensures.unread clean)
