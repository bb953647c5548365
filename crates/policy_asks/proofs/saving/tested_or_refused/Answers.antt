use Rattle.std.proofs.Common.{◌≡◌, ◌∙◌, Err, ap, subst, sym}
use Rattle.std.specs.Prelude.{Some}
use Rattle.tail_base.specs.Steps.{Fails}
use Rattle.policy_sites.specs.Sites.{sites_of}
use Rattle.policy_tests.specs.Tests.{tested}
use Rattle.desk_state.specs.State.{State}
use Rattle.desk_state.specs.declared.refusal.Refusal.{Refusal}
use Rattle.policy_asks.specs.Saving.{or_refused, tested_in}
use Rattle.policy_asks.proofs.saving.tested_or_refused.Goals as goal

-- the tests ran over the tables and the live machines of the state
pub returns-in-Err-Fault : goal.returns-in-Err-Fault
returns-in-Err-Fault c =
    let policy = c.args.policy.now in
    let rows = ap (λ (s : State). s.rows) c.at.view_is in
    let live = c.as_slice.ensures.value ∙ c.in_ok-live.ensures.value in
    let fault : tested policy (sites_of (Some policy) c.at.inside.tables.now.rows c.as_slice.result.now) ≡ Err c.in-Err-Fault.fault =
    subst (λ f. Fails f (tested policy (sites_of (Some policy) c.at.inside.tables.now.rows c.as_slice.result.now))) c.in-Err-Fault.field-0-is c.in-Err-Fault.ensures.value in
    let same : tested_in c.args.at.now policy ≡ Err c.in-Err-Fault.fault = (λ i. tested policy (sites_of (Some policy) (sym rows i) (sym live i))) ∙ fault in
    record { value = ap or_refused same ∙ ap (λ (r : Refusal). Err r) (sym c.refusal_by.ensures.value) }
