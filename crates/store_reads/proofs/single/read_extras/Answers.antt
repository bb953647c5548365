use Rattle.std.proofs.Common.{List, [], sym, subst, is_ok, ◌∙◌}
use Rattle.sqlite_value.specs.Order.{Row}
use Rattle.net_rows.specs.declared.change.Kind.TheVariants as kind
use Rattle.sqlite.specs.Held.{state}
use Rattle.sqlite.specs.State.{Shown}
use Rattle.store_sql.specs.Schema.{schema_1}
use Rattle.store_sql.proofs.Selects.{select_extras_means}
use Rattle.std.proofs.lemmas.Result.{IfOk-weaker}
use Rattle.store_sql.specs.declared.texts.TheConstants.{SELECT_EXTRAS}
use Rattle.store_reads.proofs.BackLemmas.{extras_stand}
use Rattle.store_reads.specs.Causes.{FailsOnlyFor, HasCause}
use Rattle.store_reads.specs.Damages.{unless_read}
use Rattle.store_reads.specs.Values.{extras_in}
use Rattle.store_reads.proofs.Causes.{caused_less, extras_listed}
use Rattle.store_reads.proofs.DamageLemmas.{finds_extras, finds_outside, extras_listing}
use Rattle.store_reads.proofs.Seen.{seen_less}
use Rattle.store_reads.proofs.ShownRows.{shown_records}
use Rattle.store_reads.proofs.single.read_extras.Goals as goal

pub returns-in-Ok-clause-seen : goal.returns-in-Ok-clause-seen
returns-in-Ok-clause-seen g c =
    seen_less schema_1 (state g.S.Store c.args.conn.now) (state g.S.Store c.rows_of.new.conn) (is_ok c.extras_in.result)
    (c.in-Ok.ensures.seen schema_1 select_extras_means.plain)

pub returns-in-Err-clause-seen : goal.returns-in-Err-clause-seen
returns-in-Err-clause-seen g c =
    c.in-Err.ensures.seen schema_1 select_extras_means.plain

pub returns-in-Ok-clause-read : goal.returns-in-Ok-clause-read
returns-in-Ok-clause-read g c clean all keeps good =
    let old = state g.S.Store c.args.conn.now in
    let new = state g.S.Store c.rows_of.new.conn in
    let rows : List Row = c.in-Ok.rows.items in
    let shown = c.in-Ok.ensures.shown clean in
    c.extras_in.ensures.read all.extras (c.as_slice.ensures.value ∙ shown_records old new all rows keeps shown) good.extras

pub returns-in-Ok-clause-back : goal.returns-in-Ok-clause-back
returns-in-Ok-clause-back g c clean ours =
    let old = state g.S.Store c.args.conn.now in
    let new = state g.S.Store c.rows_of.new.conn in
    let rows : List Row = c.in-Ok.rows.items in
    let shown = c.in-Ok.ensures.shown clean in
    IfOk-weaker c.extras_in.result _ _ (λ x h. (extras_stand old new x ours (subst (λ (rs : List Row). Shown SELECT_EXTRAS.now [] old new rs) (sym c.as_slice.ensures.value ∙ h.0) shown), h.1)) c.extras_in.ensures.back

pub returns-in-Ok-clause-cause : goal.returns-in-Ok-clause-cause
returns-in-Ok-clause-cause g c =
    caused_less (state g.S.Store c.args.conn.now) (state g.S.Store c.rows_of.new.conn) c.extras_in.result c.extras_in.ensures.err

pub returns-in-Err-clause-cause : goal.returns-in-Err-clause-cause
returns-in-Err-clause-cause g c clean has =
    subst (FailsOnlyFor (HasCause (state g.S.Store c.args.conn.now) (state g.S.Store c.rows_of.new.conn))) (sym c.load_fault.ensures.value)
    (c.in-Err.ensures.cause extras_listed clean has)

pub returns-in-Ok-clause-finds : goal.returns-in-Ok-clause-finds
returns-in-Ok-clause-finds g c clean has live =
    let old = state g.S.Store c.args.conn.now in
    let new = state g.S.Store c.rows_of.new.conn in
    let rows : List Row = c.in-Ok.rows.items in
    finds_extras (old.now.trees 14) rows c.extras_in.result (extras_listing old new rows has live (c.in-Ok.ensures.shown clean))
    (λ xs is good. c.extras_in.ensures.read xs (c.as_slice.ensures.value ∙ is) good)
    (IfOk-weaker c.extras_in.result _ _ (λ x h. (sym c.as_slice.ensures.value ∙ h.0, h.1)) c.extras_in.ensures.back) c.extras_in.ensures.unread

pub returns-in-Err-clause-finds : goal.returns-in-Err-clause-finds
returns-in-Err-clause-finds g c clean has live =
    finds_outside (extras_in 1) (unless_read kind.Extras (extras_in 1)) ((state g.S.Store c.args.conn.now).now.trees 14) c.load_fault.result c.load_fault.ensures.outside
