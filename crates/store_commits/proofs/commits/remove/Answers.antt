use Rattle.std.proofs.Common.{◌≡◌, ◌∷◌, ◌∙◌, [], pos, ap, subst₂}
use Rattle.sqlite.specs.Held.{state}
use Rattle.sqlite.specs.Values.{bound_value}
use Rattle.sqlite_value.specs.Value.{owned}
use Rattle.sqlite_value.specs.declared.value.Value.TheVariants.{Int}
use Rattle.store_sql.specs.Ran.{HasRun}
use Rattle.store_commits.specs.Gone.{gone_id}
use Rattle.store_commits.proofs.KeptSteps.{row_gone}
use Rattle.store_commits.proofs.commits.remove.Goals as goal

pub returns-clause-made : goal.returns-clause-made
returns-clause-made g c clean =
    let old = (state g.S.Store c.args.tx.now.conn.now).now in
    let new = (state g.S.Store c.run.new.tx.conn.now).now in
    let value : bound_value (owned c.id_value-value.result) ≡ Int (pos (gone_id c.args.gone)) = c.id_value-value.ensures.value ∙ ap (λ n. Int (pos n)) c.goes_by-id.ensures.id in
    row_gone old new c.args.gone c.in_ok-run.field-0 (subst₂ (λ text v. HasRun text (v ∷ []) c.in_ok-run.field-0 old new) c.goes_by-id.ensures.text value (c.in_ok-run.ensures.ran clean))
