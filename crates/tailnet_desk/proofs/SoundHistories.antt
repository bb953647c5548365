-- Legal histories keep the rules of the tables, and their policy in force.
use Rattle.std.proofs.Common.{◌≡◌, ◌++◌, ◌∙◌, ℕ, List, [], ◌∷◌, Option, Some, None, Result, Ok, Err, refl, sym, ap, subst, arith}
use Rattle.net_rows.specs.Damage.{damage}
use Rattle.net_rows.specs.Sound.{AreSound}
use Rattle.net_rows.specs.declared.change.Change.{Change}
use Rattle.net_rows.specs.declared.change.Counters.{Counters}
use Rattle.net_rows.specs.declared.rows.Rows.{Rows}
use Rattle.net_rows.proofs.Sounds.{no_damage, sound_of}
use Rattle.settings.specs.Settings.{AreSettings}
use Rattle.desk_state.specs.Decisions.{IsNoLess, IsSound, rows_after}
use Rattle.desk_state.specs.State.{State, at_moment}
use Rattle.desk_state.specs.declared.decision.Decision.{Decision}
use Rattle.desk_state.specs.declared.refusal.Refusal.{Refusal}
use Rattle.desk_state.proofs.Proper.{same_counters}
use Rattle.policy_asks.specs.Kept.{policy_in}
use Rattle.machine_asks.specs.Attach.{attach}
use Rattle.machine_asks.specs.Detach.{detach}
use Rattle.machine_asks.specs.Drain.{drain}
use Rattle.machine_asks.specs.declared.attaching.AttachDecision.{AttachDecision}
use Rattle.machine_asks.specs.declared.draining.DrainDecision.{DrainDecision}
use Rattle.tailnet_desk.specs.Asks.{IsPollEvent, IsShortEvent}
use Rattle.tailnet_desk.specs.History.{Legal, replay, state_after}
use Rattle.tailnet_desk.specs.Seated.{IsInForce}
use Rattle.tailnet_desk.specs.Step.{attach_turn, decision, detach_turn, drain_turn, moment_of, outcome, step}
use Rattle.tailnet_desk.specs.declared.entry.Entry.{Entry}
use Rattle.tailnet_desk.specs.declared.entry.Event.{Event}
use Rattle.tailnet_desk.specs.declared.entry.Event.TheVariants as event
use Rattle.tailnet_desk.specs.declared.reply.Answer.{Answer}
use Rattle.tailnet_desk.specs.declared.reply.Reply.{Reply}
use Rattle.tailnet_desk.specs.declared.reply.Reply.TheVariants.{Done, Attached, Frames, Ended, Detached, Refused, Lost}
use Rattle.tailnet_desk.proofs.Decisions.{KeepsPolicy, decision_in_force, decision_sound}
use Rattle.tailnet_desk.proofs.TurnLemmas.{EachSound}

pub no_less_still : (a b c : Counters) → IsNoLess a b → IsNoLess b c → IsNoLess a c
no_less_still a b c h k = record {
  user = omega (arith, h.user, k.user);
  key = omega (arith, h.key, k.key);
  pending = omega (arith, h.pending, k.pending);
  machine = omega (arith, h.machine, k.machine);
}

-- rows keep their rules, and no counter falls
abbrev pub Better : Rows → Rows → Type 0
Better old new = (damage new ≡ None) × IsNoLess old.next new.next

pub rows_better : (rows : Rows) (change : Option Change) → damage rows ≡ None → EachSound rows change → Better rows (rows_after rows change)
rows_better rows None h sound = (h, same_counters rows.next)
rows_better rows (Some c) h sound = ((sound c refl).sound, (sound c refl).rises)

pub outcome_better : (s : State) (r : Result (Decision Answer) Refusal) → damage s.rows ≡ None → IsSound s.rows r → Better s.rows (outcome s r).state.rows
outcome_better s (Err e) h sound = (h, same_counters s.rows.next)
outcome_better s (Ok d) h sound = rows_better s.rows d.change h (sound d refl).change

-- What holds after the step and when its moment has come, holds after each reply.
pub after_any : (P : State → Type 0) (s : State) (e : Event) (reply : Reply) → P (step s e).state → P (at_moment s (moment_of e)) → P (state_after s e reply)
after_any P s e (Done a) stepped still = stepped
after_any P s e (Attached handle seq resumed may_wait) stepped still = stepped
after_any P s e (Frames responses) stepped still = stepped
after_any P s e Ended stepped still = stepped
after_any P s e Detached stepped still = stepped
after_any P s e (Refused r) stepped still = stepped
after_any P s e (Lost loss) stepped still = still

-- Settings, rows and the policy in force are as they were.
pub record KeepsTables (s t : State) : Type 0 where
  pub settings : t.settings ≡ s.settings
  pub rows : t.rows ≡ s.rows
  pub policy : t.policy ≡ s.policy

attach_keeps : (s : State) (r : Result AttachDecision Refusal) → KeepsTables s (attach_turn s r).state
attach_keeps s (Ok d) = record { settings = refl; rows = refl; policy = refl }
attach_keeps s (Err e) = record { settings = refl; rows = refl; policy = refl }

drain_keeps : (s : State) (o : Option DrainDecision) → KeepsTables s (drain_turn s o).state
drain_keeps s (Some d) = record { settings = refl; rows = refl; policy = refl }
drain_keeps s None = record { settings = refl; rows = refl; policy = refl }

detach_keeps : (s : State) (o : Option ℕ) → KeepsTables s (detach_turn s o).state
detach_keeps s (Some id) = record { settings = refl; rows = refl; policy = refl }
detach_keeps s None = record { settings = refl; rows = refl; policy = refl }

-- a poll's event leaves the tables
pub poll_keeps : (s : State) (e : Event) → IsPollEvent e → KeepsTables s (step s e).state
poll_keeps s (event.Ask x m words) poll = absurd poll
poll_keeps s (event.Attach mk node handle seq m words) poll =
    let k = attach_keeps (at_moment s m) (attach (at_moment s m) mk node handle seq words) in record { settings = k.settings; rows = k.rows; policy = k.policy }
poll_keeps s (event.Drain mk handle m) poll =
    let k = drain_keeps (at_moment s m) (drain (at_moment s m) mk handle) in record { settings = k.settings; rows = k.rows; policy = k.policy }
poll_keeps s (event.Detach mk handle m) poll =
    let k = detach_keeps (at_moment s m) (detach (at_moment s m) mk handle) in record { settings = k.settings; rows = k.rows; policy = k.policy }

kept_better : (s t : State) → KeepsTables s t → damage s.rows ≡ None → Better s.rows t.rows
kept_better s t keeps h = subst (λ (r : Rows). Better s.rows r) (sym keeps.rows) (h, same_counters s.rows.next)

pub step_better : (s : State) (e : Event) → AreSettings s.settings → damage s.rows ≡ None → IsShortEvent e → Better s.rows (step s e).state.rows
step_better s (event.Ask x m words) hold h short =
    outcome_better (at_moment s m) (decision (at_moment s m) x words) h (decision_sound (at_moment s m) x words hold h short)
step_better s (event.Attach mk node handle seq m words) hold h short =
    let e = event.Attach mk node handle seq m words in kept_better s (step s e).state (poll_keeps s e tt) h
step_better s (event.Drain mk handle m) hold h short =
    let e = event.Drain mk handle m in kept_better s (step s e).state (poll_keeps s e tt) h
step_better s (event.Detach mk handle m) hold h short =
    let e = event.Detach mk handle m in kept_better s (step s e).state (poll_keeps s e tt) h

pub after_better : (s : State) (e : Event) (reply : Reply) → AreSettings s.settings → damage s.rows ≡ None → IsShortEvent e → Better s.rows (state_after s e reply).rows
after_better s e reply hold h short =
    after_any (λ t. Better s.rows t.rows) s e reply (step_better s e hold h short) (h, same_counters s.rows.next)

outcome_in_force : (s : State) (r : Result (Decision Answer) Refusal) → ((d : Decision Answer) → r ≡ Ok d → KeepsPolicy s d) → IsInForce s.rows s.policy
    → IsInForce (outcome s r).state.rows (outcome s r).state.policy
outcome_in_force s (Err e) h held = held
outcome_in_force s (Ok d) h held = h d refl held

pub outcome_settings : (s : State) (r : Result (Decision Answer) Refusal) → (outcome s r).state.settings ≡ s.settings
outcome_settings s (Err e) = refl
outcome_settings s (Ok d) = refl

step_settings : (s : State) (e : Event) → (step s e).state.settings ≡ s.settings
step_settings s (event.Ask x m words) = outcome_settings (at_moment s m) (decision (at_moment s m) x words)
step_settings s (event.Attach mk node handle seq m words) = (poll_keeps s (event.Attach mk node handle seq m words) tt).settings
step_settings s (event.Drain mk handle m) = (poll_keeps s (event.Drain mk handle m) tt).settings
step_settings s (event.Detach mk handle m) = (poll_keeps s (event.Detach mk handle m) tt).settings

pub after_settings : (s : State) (e : Event) (reply : Reply) → (state_after s e reply).settings ≡ s.settings
after_settings s e reply = after_any (λ t. t.settings ≡ s.settings) s e reply (step_settings s e) refl

pub legal_better : (s : State) (count : ℕ) (es : List Entry) → AreSettings s.settings → damage s.rows ≡ None → Legal s count es → Better s.rows (replay s es).rows
legal_better s count [] hold h legal = (h, same_counters s.rows.next)
legal_better s count (e ∷ es) hold h legal =
    let t = state_after s e.event e.reply in
    let one = after_better s e.event e.reply hold h legal.1 in
    let rest = legal_better t e.after es (subst AreSettings (sym (after_settings s e.event e.reply)) hold) one.0 legal.4 in
    (rest.0, no_less_still s.rows.next t.rows.next (replay t es).rows.next one.1 rest.1)

pub legal_sound : (s : State) (count : ℕ) (es : List Entry) → AreSettings s.settings → AreSound s.rows → Legal s count es → AreSound (replay s es).rows
legal_sound s count es hold h legal = sound_of (replay s es).rows (legal_better s count es hold (no_damage s.rows h) legal).0

pub legal_rises : (s : State) (count : ℕ) (es : List Entry) → AreSettings s.settings → AreSound s.rows → Legal s count es → IsNoLess s.rows.next (replay s es).rows.next
legal_rises s count es hold h legal = (legal_better s count es hold (no_damage s.rows h) legal).1

kept_in_force : (s t : State) → KeepsTables s t → IsInForce s.rows s.policy → IsInForce t.rows t.policy
kept_in_force s t keeps held = keeps.policy ∙ held ∙ ap (λ (r : Rows). policy_in r) (sym keeps.rows)

step_in_force : (s : State) (e : Event) → AreSettings s.settings → damage s.rows ≡ None → IsShortEvent e → IsInForce s.rows s.policy
    → IsInForce (step s e).state.rows (step s e).state.policy
step_in_force s (event.Ask x m words) hold h short held =
    outcome_in_force (at_moment s m) (decision (at_moment s m) x words) (λ d is. decision_in_force (at_moment s m) x words d hold h short is) held
step_in_force s (event.Attach mk node handle seq m words) hold h short held =
    let e = event.Attach mk node handle seq m words in kept_in_force s (step s e).state (poll_keeps s e tt) held
step_in_force s (event.Drain mk handle m) hold h short held =
    let e = event.Drain mk handle m in kept_in_force s (step s e).state (poll_keeps s e tt) held
step_in_force s (event.Detach mk handle m) hold h short held =
    let e = event.Detach mk handle m in kept_in_force s (step s e).state (poll_keeps s e tt) held

-- the policy in force stays that of the tables
pub after_in_force : (s : State) (e : Event) (reply : Reply) → AreSettings s.settings → damage s.rows ≡ None → IsShortEvent e → IsInForce s.rows s.policy
    → IsInForce (state_after s e reply).rows (state_after s e reply).policy
after_in_force s e reply hold h short held =
    after_any (λ t. IsInForce t.rows t.policy) s e reply (step_in_force s e hold h short held) held

pub legal_in_force : (s : State) (count : ℕ) (es : List Entry) → AreSettings s.settings → damage s.rows ≡ None → IsInForce s.rows s.policy → Legal s count es
    → IsInForce (replay s es).rows (replay s es).policy
legal_in_force s count [] hold h held legal = held
legal_in_force s count (e ∷ es) hold h held legal =
    let t = state_after s e.event e.reply in
    let one = after_better s e.event e.reply hold h legal.1 in
    legal_in_force t e.after es (subst AreSettings (sym (after_settings s e.event e.reply)) hold) one.0 (after_in_force s e.event e.reply hold h legal.1 held) legal.4

pub legal_beginning : (s : State) (count : ℕ) (es more : List Entry) → Legal s count (es ++ more) → Legal s count es
legal_beginning s count [] more legal = tt
legal_beginning s count (e ∷ es) more legal =
    (legal.0, legal.1, legal.2, legal.3, legal_beginning (state_after s e.event e.reply) e.after es more legal.4)
