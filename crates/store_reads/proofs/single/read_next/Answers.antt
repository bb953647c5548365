use Rattle.std.proofs.Common.{List, [], sym, subst, is_ok, ◌∙◌}
use Rattle.sqlite_value.specs.Order.{Row}
use Rattle.net_rows.specs.declared.change.Kind.TheVariants as kind
use Rattle.sqlite.specs.Held.{state}
use Rattle.sqlite.specs.State.{Shown}
use Rattle.store_sql.specs.Schema.{schema_1}
use Rattle.store_sql.proofs.Selects.{select_meta_means}
use Rattle.std.proofs.lemmas.Result.{IfOk-weaker}
use Rattle.store_sql.specs.declared.texts.TheConstants.{SELECT_META}
use Rattle.store_reads.proofs.BackLemmas.{next_stands}
use Rattle.store_reads.specs.Causes.{FailsOnlyFor, HasCause}
use Rattle.store_reads.specs.Damages.{unless_read}
use Rattle.store_reads.specs.Values.{next_in}
use Rattle.store_reads.proofs.Causes.{caused_less, meta_listed}
use Rattle.store_reads.proofs.DamageLemmas.{finds_next, finds_outside, next_listing}
use Rattle.store_reads.proofs.Seen.{seen_less}
use Rattle.store_reads.proofs.ShownRows.{shown_next}
use Rattle.store_reads.proofs.single.read_next.Goals as goal

pub returns-in-Ok-clause-seen : goal.returns-in-Ok-clause-seen
returns-in-Ok-clause-seen g c =
    seen_less schema_1 (state g.S.Store c.args.conn.now) (state g.S.Store c.rows_of.new.conn) (is_ok c.next_of.result)
    (c.in-Ok.ensures.seen schema_1 select_meta_means.plain)

pub returns-in-Err-clause-seen : goal.returns-in-Err-clause-seen
returns-in-Err-clause-seen g c =
    c.in-Err.ensures.seen schema_1 select_meta_means.plain

pub returns-in-Ok-clause-read : goal.returns-in-Ok-clause-read
returns-in-Ok-clause-read g c clean all keeps good =
    let old = state g.S.Store c.args.conn.now in
    let new = state g.S.Store c.rows_of.new.conn in
    let rows : List Row = c.in-Ok.rows.items in
    let shown = c.in-Ok.ensures.shown clean in
    c.next_of.ensures.read all.next (c.as_slice.ensures.value ∙ shown_next old new all rows keeps shown) good.next

pub returns-in-Ok-clause-back : goal.returns-in-Ok-clause-back
returns-in-Ok-clause-back g c clean ours =
    let old = state g.S.Store c.args.conn.now in
    let new = state g.S.Store c.rows_of.new.conn in
    let rows : List Row = c.in-Ok.rows.items in
    let shown = c.in-Ok.ensures.shown clean in
    IfOk-weaker c.next_of.result _ _ (λ x h. (next_stands old new x ours (subst (λ (rs : List Row). Shown SELECT_META.now [] old new rs) (sym c.as_slice.ensures.value ∙ h.0) shown), h.1)) c.next_of.ensures.back

pub returns-in-Ok-clause-cause : goal.returns-in-Ok-clause-cause
returns-in-Ok-clause-cause g c =
    caused_less (state g.S.Store c.args.conn.now) (state g.S.Store c.rows_of.new.conn) c.next_of.result c.next_of.ensures.err

pub returns-in-Err-clause-cause : goal.returns-in-Err-clause-cause
returns-in-Err-clause-cause g c clean has =
    subst (FailsOnlyFor (HasCause (state g.S.Store c.args.conn.now) (state g.S.Store c.rows_of.new.conn))) (sym c.load_fault.ensures.value)
    (c.in-Err.ensures.cause meta_listed clean has)

pub returns-in-Ok-clause-finds : goal.returns-in-Ok-clause-finds
returns-in-Ok-clause-finds g c clean has live =
    let old = state g.S.Store c.args.conn.now in
    let new = state g.S.Store c.rows_of.new.conn in
    let rows : List Row = c.in-Ok.rows.items in
    finds_next (old.now.trees 0) rows c.next_of.result (next_listing old new rows has live (c.in-Ok.ensures.shown clean))
    (λ next is typed. c.next_of.ensures.read next (c.as_slice.ensures.value ∙ is) typed)
    (IfOk-weaker c.next_of.result _ _ (λ x h. (sym c.as_slice.ensures.value ∙ h.0, h.1)) c.next_of.ensures.back) c.next_of.ensures.unread

pub returns-in-Err-clause-finds : goal.returns-in-Err-clause-finds
returns-in-Err-clause-finds g c clean has live =
    finds_outside next_in (unless_read kind.Meta next_in) ((state g.S.Store c.args.conn.now).now.trees 0) c.load_fault.result c.load_fault.ensures.outside
