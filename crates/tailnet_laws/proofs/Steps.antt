-- What one step, and a legal history, make of the tables.
use Rattle.std.proofs.Common.{◌≡◌, ℕ, List, [], ◌∷◌, Option, None, Result, Ok, Err, refl, sym, subst}
use Rattle.tail_base.specs.declared.key.MachineKey.{MachineKey}
use Rattle.tail_base.specs.Steps.{◌>>=◌}
use Rattle.settings.specs.Settings.{AreSettings}
use Rattle.net_rows.specs.Damage.{damage}
use Rattle.net_rows.specs.declared.key.AuthKey.{AuthKey}
use Rattle.net_rows.specs.declared.rows.Rows.{Rows}
use Rattle.desk_state.specs.Decisions.{IsNoLess, answered}
use Rattle.desk_state.specs.State.{State, at_moment}
use Rattle.desk_state.specs.declared.decision.Decision.{Decision}
use Rattle.desk_state.specs.declared.refusal.Refusal.{Refusal}
use Rattle.admin_asks.specs.Decision as operator
use Rattle.machine_asks.specs.Decision as machine
use Rattle.machine_asks.specs.Seed.{seed}
use Rattle.machine_asks.specs.declared.ask.MachineAsk.{MachineAsk}
use Rattle.policy_asks.specs.Decision.{policy_decision}
use Rattle.tailnet_desk.specs.Asks.{IsPollEvent}
use Rattle.tailnet_desk.specs.History.{Legal, replay, state_after}
use Rattle.tailnet_desk.specs.Step.{decision, outcome, step}
use Rattle.tailnet_desk.specs.declared.ask.Ask.{Ask}
use Rattle.tailnet_desk.specs.declared.ask.Ask.TheVariants as ask
use Rattle.tailnet_desk.specs.declared.entry.Entry.{Entry}
use Rattle.tailnet_desk.specs.declared.entry.Event.{Event}
use Rattle.tailnet_desk.specs.declared.entry.Event.TheVariants as event
use Rattle.tailnet_desk.specs.declared.reply.Answer.{Answer}
use Rattle.tailnet_desk.specs.declared.reply.Answer.TheVariants as answer
use Rattle.tailnet_desk.specs.declared.reply.Reply.{Reply}
use Rattle.tailnet_desk.proofs.SoundHistories.{after_any, after_better, after_settings, poll_keeps}
use Rattle.tailnet_laws.specs.Entering.{IsAdmission, IsKeyed}
use Rattle.tailnet_laws.specs.Entrances.{IsEntrance, LetsIn}
use Rattle.tailnet_laws.proofs.Every.{Every, every_bind, every_ok}
use Rattle.tailnet_laws.proofs.Growth.{Grown, grown_more, rows_grown, same_grown}
use Rattle.tailnet_laws.proofs.MachinePuts.{machine_puts, seed_puts}
use Rattle.tailnet_laws.proofs.OperatorPuts.{operator_puts}
use Rattle.tailnet_laws.proofs.PolicyPuts.{NoneEnters, policy_puts}
use Rattle.tailnet_laws.proofs.Puts.{IsKeyPut, IsKeyUsed, Puts, used_is_put}

outcome_grown : (s : State) (keys : AuthKey → Type 0) (enters : MachineKey → Type 0) (r : Result (Decision Answer) Refusal)
    → Every (Puts s.rows keys enters) r → Grown s.rows keys enters (outcome s r).state.rows
outcome_grown s keys enters (Err e) h = same_grown s.rows keys enters
outcome_grown s keys enters (Ok d) h = rows_grown s.rows keys enters d.change (λ c is. (h d refl c is).0)

-- the answer doesn't matter
pub answered_puts : {A B : Type 0} (f : A → B) (t : Rows) (keys : AuthKey → Type 0) (enters : MachineKey → Type 0) (r : Result (Decision A) Refusal)
    → Every (Puts t keys enters) r → Every (Puts t keys enters) (r >>= λ d. Ok (answered f d))
answered_puts f t keys enters r h =
    every_bind (Puts t keys enters) r (λ d. Ok (answered f d)) (λ d is. every_ok (Puts t keys enters) (answered f d) (h d is))

pub machine_grown : (s : State) (x : MachineAsk) (words : Option (List ℕ)) → Grown s.rows (IsKeyUsed s.rows) (IsKeyed x) (outcome s (decision s (ask.Machine x) words)).state.rows
machine_grown s x words =
    outcome_grown s (IsKeyUsed s.rows) (IsKeyed x) (decision s (ask.Machine x) words)
    (answered_puts answer.Machine s.rows (IsKeyUsed s.rows) (IsKeyed x) (machine.decision s x words) (machine_puts s x words))

pub ask_grown : (s : State) (x : Ask) (words : Option (List ℕ)) → Grown s.rows (IsKeyPut s.rows) (LetsIn s x) (outcome s (decision s x words)).state.rows
ask_grown s (ask.Seed text) words =
    outcome_grown s (IsKeyPut s.rows) (λ _. ⊥) (decision s (ask.Seed text) words)
    (answered_puts (λ _. answer.Seeded) s.rows (IsKeyPut s.rows) (λ _. ⊥) (seed s text) (seed_puts s text))
ask_grown s (ask.Machine x) words =
    grown_more s.rows (IsKeyUsed s.rows) (IsKeyPut s.rows) (IsKeyed x) (IsKeyed x) (outcome s (decision s (ask.Machine x) words)).state.rows
    (used_is_put s.rows) (λ mk may. may) (machine_grown s x words)
ask_grown s (ask.Operator x) words =
    outcome_grown s (IsKeyPut s.rows) (IsAdmission s x) (decision s (ask.Operator x) words)
    (answered_puts answer.Operator s.rows (IsKeyPut s.rows) (IsAdmission s x) (operator.decision s x words) (operator_puts s x words))
ask_grown s (ask.Policy x) words =
    outcome_grown s (IsKeyPut s.rows) NoneEnters (decision s (ask.Policy x) words)
    (answered_puts answer.Policy s.rows (IsKeyPut s.rows) NoneEnters (policy_decision s x) (policy_puts s x))

-- a poll changes no row
poll_grown : (s : State) (e : Event) → IsPollEvent e → Grown s.rows (IsKeyPut s.rows) (IsEntrance s e) (step s e).state.rows
poll_grown s e poll =
    subst (λ (t : Rows). Grown s.rows (IsKeyPut s.rows) (IsEntrance s e) t) (sym (poll_keeps s e poll).rows) (same_grown s.rows (IsKeyPut s.rows) (IsEntrance s e))

pub step_grown : (s : State) (e : Event) → Grown s.rows (IsKeyPut s.rows) (IsEntrance s e) (step s e).state.rows
step_grown s (event.Ask x moment words) = ask_grown (at_moment s moment) x words
step_grown s (event.Attach mk node handle seq moment words) = poll_grown s (event.Attach mk node handle seq moment words) tt
step_grown s (event.Drain mk handle moment) = poll_grown s (event.Drain mk handle moment) tt
step_grown s (event.Detach mk handle moment) = poll_grown s (event.Detach mk handle moment) tt

pub state_grown : (s : State) (e : Event) (reply : Reply) → Grown s.rows (IsKeyPut s.rows) (IsEntrance s e) (state_after s e reply).rows
state_grown s e reply =
    after_any (λ t. Grown s.rows (IsKeyPut s.rows) (IsEntrance s e) t.rows) s e reply (step_grown s e) (same_grown s.rows (IsKeyPut s.rows) (IsEntrance s e))

-- what tables keep while they grow so and no counter falls
abbrev pub Lasts : (Rows → Type 0) → Type 1
Lasts P = (t : Rows) (enters : MachineKey → Type 0) (u : Rows) → Grown t (IsKeyPut t) enters u → IsNoLess t.next u.next → P t → P u

pub legal_keeps : (P : Rows → Type 0) → Lasts P → (s : State) (count : ℕ) (es : List Entry)
    → AreSettings s.settings → damage s.rows ≡ None → Legal s count es → P s.rows → P (replay s es).rows
legal_keeps P lasts s count [] hold fit legal p = p
legal_keeps P lasts s count (e ∷ es) hold fit legal p =
    let t = state_after s e.event e.reply in
    let better = after_better s e.event e.reply hold fit legal.1 in
    legal_keeps P lasts t e.after es (subst AreSettings (sym (after_settings s e.event e.reply)) hold) better.0 legal.4
    (lasts s.rows (IsEntrance s e.event) t.rows (state_grown s e.event e.reply) better.1 p)
