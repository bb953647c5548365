use Rattle.std.proofs.Common.{◌∙◌, List, [], subst, sym}
use Rattle.std.proofs.lemmas.Result.{IfOk-weaker}
use Rattle.sqlite.specs.Held.{state}
use Rattle.sqlite.specs.State.{Shown}
use Rattle.sqlite_value.specs.Order.{Row}
use Rattle.store_reads.specs.Causes.{FailsOnlyFor, HasCause, ListsOurs}
use Rattle.store_reads.specs.Damages.{IsFirstUnread}
use Rattle.store_reads.proofs.Causes.{caused_less}
use Rattle.store_reads.proofs.DamageLemmas.{err_weaker, names_outside}
use Rattle.store_reads.proofs.listed.read_all.Goals as goal

pub returns-in-Ok-clause-back : goal.returns-in-Ok-clause-back
returns-in-Ok-clause-back g c clean =
    let old = state g.S.Store c.args.conn.now in
    let new = state g.S.Store c.rows_of.new.conn in
    let rows : List Row = c.in-Ok.rows.items in
    let shown = subst (λ text. Shown text [] old new rows) c.select.ensures.value (c.in-Ok.ensures.shown clean) in
    IfOk-weaker c.rows_in.result _ _ (λ x h. (subst (λ (rs : List Row). Shown g.T.Loaded.select_text [] old new rs) (sym c.as_slice.ensures.value ∙ h.0) shown, h.1)) c.rows_in.ensures.back

pub returns-in-Ok-clause-cause : goal.returns-in-Ok-clause-cause
returns-in-Ok-clause-cause g c lists =
    caused_less (state g.S.Store c.args.conn.now) (state g.S.Store c.rows_of.new.conn) c.rows_in.result c.rows_in.ensures.err

pub returns-in-Err-clause-cause : goal.returns-in-Err-clause-cause
returns-in-Err-clause-cause g c lists clean has =
    subst (FailsOnlyFor (HasCause (state g.S.Store c.args.conn.now) (state g.S.Store c.rows_of.new.conn))) (sym c.load_fault.ensures.value)
    (c.in-Err.ensures.cause (subst ListsOurs (sym c.select.ensures.value) lists) clean has)

pub returns-in-Ok-clause-unread : goal.returns-in-Ok-clause-unread
returns-in-Ok-clause-unread g c clean =
    let old = state g.S.Store c.args.conn.now in
    let new = state g.S.Store c.rows_of.new.conn in
    let rows : List Row = c.in-Ok.rows.items in
    let shown = subst (λ text. Shown text [] old new rows) c.select.ensures.value (c.in-Ok.ensures.shown clean) in
    err_weaker (IsFirstUnread g.T.Loaded.stored g.T.Loaded.Typed g.T.Loaded.kind_is c.as_slice.result.now)
    (λ d. (them : List Row) × Shown g.T.Loaded.select_text [] old new them × IsFirstUnread g.T.Loaded.stored g.T.Loaded.Typed g.T.Loaded.kind_is them d) c.rows_in.result
    (λ d h. (rows, shown, subst (λ (rs : List Row). IsFirstUnread g.T.Loaded.stored g.T.Loaded.Typed g.T.Loaded.kind_is rs d) c.as_slice.ensures.value h)) c.rows_in.ensures.unread

pub returns-in-Err-clause-unread : goal.returns-in-Err-clause-unread
returns-in-Err-clause-unread g c clean =
    let old = state g.S.Store c.args.conn.now in
    let new = state g.S.Store c.rows_of.new.conn in
    names_outside (λ d. (them : List Row) × Shown g.T.Loaded.select_text [] old new them × IsFirstUnread g.T.Loaded.stored g.T.Loaded.Typed g.T.Loaded.kind_is them d) c.load_fault.result c.load_fault.ensures.outside
