-- From settings and tables that keep their rules, and an ask that is short, what is decided is sound, and the policy in
-- force is that of the tables afterwards, where it was before.
use Rattle.std.proofs.Common.{◌≡◌, ℕ, List, Option, Some, None, Result, Ok, Err, refl, sym, ap, ◌∙◌}
use Rattle.std.specs.Option.{option_or}
use Rattle.net_rows.specs.Damage.{damage}
use Rattle.net_rows.specs.declared.rows.Rows.{Rows}
use Rattle.policy_rows.specs.declared.policy.Policy.{Policy}
use Rattle.settings.specs.Settings.{AreSettings}
use Rattle.tail_base.specs.Steps.{◌>>=◌}
use Rattle.desk_state.specs.Decisions.{IsPlain, IsSound, IsSoundDecision, answered, rows_after}
use Rattle.desk_state.specs.State.{State}
use Rattle.desk_state.specs.declared.decision.Decision.{Decision}
use Rattle.desk_state.specs.declared.refusal.Refusal.{Refusal}
use Rattle.admin_asks.specs.Decision as operator
use Rattle.admin_asks.proofs.DecisionLaws.{operator_decision_sound}
use Rattle.machine_asks.specs.Decision as machine
use Rattle.machine_asks.specs.Seed.{seed}
use Rattle.machine_asks.proofs.DecisionLaws.{machine_decision_sound, seed_sound}
use Rattle.policy_asks.specs.Decision.{policy_decision}
use Rattle.policy_asks.specs.Kept.{policy_in, policy_of_kept}
use Rattle.policy_asks.proofs.SavingLaws.{decision_kept, policy_decision_sound}
use Rattle.tailnet_desk.specs.Asks.{IsShort}
use Rattle.tailnet_desk.specs.Seated.{IsInForce}
use Rattle.tailnet_desk.specs.Step.{decision}
use Rattle.tailnet_desk.specs.declared.ask.Ask.{Ask}
use Rattle.tailnet_desk.specs.declared.ask.Ask.TheVariants as ask
use Rattle.tailnet_desk.specs.declared.reply.Answer.{Answer}
use Rattle.tailnet_desk.specs.declared.reply.Answer.TheVariants as answer

-- a decision whose answer another layer has otherwise
pub answered_is : {A B : Type 0} (f : A → B) (r : Result (Decision A) Refusal) (x : Decision B) → (r >>= λ d. Ok (answered f d)) ≡ Ok x
    → (d : Decision A) × (r ≡ Ok d) × (answered f d ≡ x)
answered_is f (Err e) x is = absurd (cc)
answered_is f (Ok d) x is = (d, refl, cc)

pub answered_sound : {A B : Type 0} (f : A → B) (rows : Rows) (r : Result (Decision A) Refusal) → IsSound rows r → IsSound rows (r >>= λ d. Ok (answered f d))
answered_sound f rows r h x is =
    let parts = answered_is f r x is in
    let here = h parts.0 parts.1 in
    rw (← parts.2) (record { change = here.change; text = here.text })

pub decision_sound : (s : State) (x : Ask) (words : Option (List ℕ)) → AreSettings s.settings → damage s.rows ≡ None → IsShort x → IsSound s.rows (decision s x words)
decision_sound s (ask.Seed text) words hold none short = answered_sound (λ nothing. answer.Seeded) s.rows (seed s text) (seed_sound s text none).sound
decision_sound s (ask.Machine x) words hold none short = answered_sound answer.Machine s.rows (machine.decision s x words) (machine_decision_sound s x words hold none short).sound
decision_sound s (ask.Operator x) words hold none short = answered_sound answer.Operator s.rows (operator.decision s x words) (operator_decision_sound s x words hold none short).sound
decision_sound s (ask.Policy x) words hold none short = answered_sound answer.Policy s.rows (policy_decision s x) (policy_decision_sound s x none)

-- after a decision the policy in force is that of the tables
abbrev pub KeepsPolicy : {A : Type 0} → State → Decision A → Type 0
KeepsPolicy s d = IsInForce s.rows s.policy → IsInForce (rows_after s.rows d.change) (option_or d.policy s.policy)

-- a decision that leaves policy and text
left_in_force : {A : Type 0} (s : State) (d : Decision A) → d.policy ≡ None → (rows_after s.rows d.change).policy ≡ s.rows.policy → KeepsPolicy s d
left_in_force s d none text held =
    ap (λ (p : Option Policy). option_or p s.policy) none ∙ held ∙ ap (λ (kept : Option (List ℕ)). policy_of_kept kept) (sym text)

-- a decision that puts the policy of the tables in force
put_in_force : {A : Type 0} (s : State) (d : Decision A) (p : Policy) → d.policy ≡ Some p → policy_in (rows_after s.rows d.change) ≡ Some p → KeepsPolicy s d
put_in_force s d p named kept held = ap (λ (q : Option Policy). option_or q s.policy) named ∙ sym kept

-- a decision on the policy
policy_in_force : {A : Type 0} (s : State) (d : Decision A) (named : Option Policy) → d.policy ≡ named → IsSoundDecision s.rows d
    → ((p : Policy) → d.policy ≡ Some p → policy_in (rows_after s.rows d.change) ≡ Some p) → KeepsPolicy s d
policy_in_force s d None named sound kept = left_in_force s d named (sound.text named)
policy_in_force s d (Some p) named sound kept = put_in_force s d p named (kept p named)

answered_in_force : {A B : Type 0} (f : A → B) (s : State) (r : Result (Decision A) Refusal) (x : Decision B) → ((d : Decision A) → r ≡ Ok d → KeepsPolicy s d)
    → (r >>= λ d. Ok (answered f d)) ≡ Ok x → KeepsPolicy s x
answered_in_force f s r x h is held =
    let parts = answered_is f r x is in
    rw (← parts.2) (h parts.0 parts.1 held)

plain_in_force : {A : Type 0} (s : State) (r : Result (Decision A) Refusal) (d : Decision A) → IsPlain s.rows r → r ≡ Ok d → KeepsPolicy s d
plain_in_force s r d plain is = left_in_force s d (plain.policy d is) ((plain.sound d is).text (plain.policy d is))

pub decision_in_force : (s : State) (x : Ask) (words : Option (List ℕ)) (d : Decision Answer) → AreSettings s.settings → damage s.rows ≡ None → IsShort x
    → decision s x words ≡ Ok d → KeepsPolicy s d
decision_in_force s (ask.Seed text) words d hold none short is =
    answered_in_force (λ nothing. answer.Seeded) s (seed s text) d (λ y yes. plain_in_force s (seed s text) y (seed_sound s text none) yes) is
decision_in_force s (ask.Machine x) words d hold none short is =
    answered_in_force answer.Machine s (machine.decision s x words) d
    (λ y yes. plain_in_force s (machine.decision s x words) y (machine_decision_sound s x words hold none short) yes) is
decision_in_force s (ask.Operator x) words d hold none short is =
    answered_in_force answer.Operator s (operator.decision s x words) d
    (λ y yes. plain_in_force s (operator.decision s x words) y (operator_decision_sound s x words hold none short) yes) is
decision_in_force s (ask.Policy x) words d hold none short is =
    answered_in_force answer.Policy s (policy_decision s x) d
    (λ y yes. policy_in_force s y y.policy refl (policy_decision_sound s x none y yes) (λ p named. decision_kept s x y p yes named)) is
