-- A single-use key admits one machine.
use Rattle.std.proofs.Common.{◌≡◌, ◌++◌, ◌<◌, ◌≤◌, ℕ, true, false, not, ◌&&◌, List, [], ◌∷◌, Option, Some, Result, Ok, inl, inr, sym, ap, ◌∙◌, subst, arith}
use Rattle.std.specs.Prelude.{Contains}
use Rattle.tail_base.specs.Steps.{◌>>=◌}
use Rattle.settings.specs.Settings.{AreSettings}
use Rattle.net_rows.specs.Rows.{after, take_all_out}
use Rattle.net_rows.specs.Sound.{AreSound}
use Rattle.net_rows.specs.declared.change.Change.{Change}
use Rattle.net_rows.specs.declared.key.AuthKey.{AuthKey}
use Rattle.net_rows.specs.declared.rows.Rows.{Rows}
use Rattle.net_rows.proofs.PutLemmas.{put_there}
use Rattle.net_rows.proofs.Sounds.{no_damage, sound_of}
use Rattle.desk_state.specs.Decisions.{answered, rows_after}
use Rattle.desk_state.specs.State.{State, at_moment}
use Rattle.desk_state.specs.declared.decision.Decision.{Decision}
use Rattle.desk_state.specs.declared.refusal.Refusal.{Refusal}
use Rattle.desk_state.specs.Rows.{row_change}
use Rattle.machine_asks.specs.Decision as machine
use Rattle.machine_asks.specs.declared.answer.MachineAnswer.{MachineAnswer}
use Rattle.machine_asks.specs.declared.ask.MachineAsk.{MachineAsk}
use Rattle.tailnet_desk.specs.Asks.{IsShortEvent}
use Rattle.tailnet_desk.specs.History.{Legal, replay, state_after}
use Rattle.tailnet_desk.specs.Step.{outcome, step}
use Rattle.tailnet_desk.specs.declared.ask.Ask.TheVariants as ask
use Rattle.tailnet_desk.specs.declared.entry.Entry.{Entry}
use Rattle.tailnet_desk.specs.declared.entry.Event.{Event}
use Rattle.tailnet_desk.specs.declared.entry.Event.TheVariants as event
use Rattle.tailnet_desk.specs.declared.reply.Answer.TheVariants as answer
use Rattle.tailnet_desk.specs.declared.reply.Reply.{Reply}
use Rattle.tailnet_desk.specs.declared.reply.Reply.TheVariants.{Attached, Detached, Done, Ended, Frames, Lost, Refused}
use Rattle.tailnet_desk.proofs.SoundHistories.{after_better, after_settings, legal_beginning, step_better}
use Rattle.tailnet_laws.specs.Entrances.{IsDone}
use Rattle.tailnet_laws.specs.KeyUse.{EventTakesKey, IsByKey, TakesKey}
use Rattle.tailnet_laws.proofs.MachinePuts.{machine_puts}
use Rattle.tailnet_laws.proofs.Puts.{IsKeyUsed}
use Rattle.tailnet_laws.proofs.Steps.{Lasts, legal_keeps}
use Rattle.tailnet_laws.proofs.UsedKeys.{one_key_row}

-- Each key of this id was used, and is not reusable; and the id has been given.
pub record IsSpent (t : Rows) (id : ℕ) : Type 0 where
  pub given : id < t.next.key
  pub used : (k : AuthKey) → Contains t.keys k → k.id ≡ id → k.used ≡ true
  pub single : (k : AuthKey) → Contains t.keys k → k.id ≡ id → k.reusable ≡ false

spent_lasts : (id : ℕ) → Lasts (λ t. IsSpent t id)
spent_lasts id t enters u grown rises h = record {
  given = omega (arith, h.given, rises.key);
  used = λ k inside is. elim (grown.keys k inside) [
    | inl put ↦ elim put [
      | inl new ↦ absurd (omega (arith, new, is, h.given))
      | inr kept ↦ kept.2.used (h.used kept.0 kept.1 (sym kept.2.id ∙ is))
    ]
    | inr was ↦ h.used k was is
  ];
  single = λ k inside is. elim (grown.keys k inside) [
    | inl put ↦ elim put [
      | inl new ↦ absurd (omega (arith, new, is, h.given))
      | inr kept ↦ kept.2.reusable ∙ h.single kept.0 kept.1 (sym kept.2.id ∙ is)
    ]
    | inr was ↦ h.single k was is
  ];
}

-- the key that a registration takes is one that it may use
taken_usable : (s : State) (x : MachineAsk) (words : Option (List ℕ)) (id : ℕ) (h : TakesKey s x words id) → IsKeyUsed s.rows (record h.key { used = true })
taken_usable s x words id h = (machine_puts s x words h.result h.decided (row_change s.rows h.puts.machine h.puts.next (Some h.key) h.puts.pending) h.puts.change).0.1.0

-- a spent key is taken no more
spent_untaken : (s : State) (x : MachineAsk) (words : Option (List ℕ)) (id : ℕ) → IsSpent s.rows id → TakesKey s x words id → ⊥
spent_untaken s x words id spent h =
    let taken = taken_usable s x words id h in
    let old = taken.0 in
    let is : old.id ≡ id = sym (ap (λ (k : AuthKey). k.id) taken.3) ∙ h.id_is in
    let used : old.used ≡ true = spent.used old taken.1 is in
    let single : old.reusable ≡ false = spent.single old taken.1 is in
    let usable : (old.used && not old.reusable) ≡ false = taken.2 in
    let clash : true ≡ false = rw (used, single) at usable in
    absurd (cc)

-- the rows after a registration by a key
taken_rows : (s : State) (x : MachineAsk) (words : Option (List ℕ)) (id : ℕ) (h : TakesKey s x words id)
    → (outcome s (machine.decision s x words >>= λ d. Ok (answered answer.Machine d))).state.rows ≡ after s.rows (row_change s.rows h.puts.machine h.puts.next (Some h.key) h.puts.pending)
taken_rows s x words id h =
    ap (λ (r : Result (Decision MachineAnswer) Refusal). (outcome s (r >>= λ d. Ok (answered answer.Machine d))).state.rows) h.decided
    ∙ ap (λ (c : Option Change). rows_after s.rows c) h.puts.change

-- after it the key is spent
taken_spent : (s : State) (x : MachineAsk) (words : Option (List ℕ)) (id : ℕ) (u : Rows) (h : TakesKey s x words id) → AreSound s.rows → AreSound u
    → s.rows.next.key ≤ u.next.key → u ≡ after s.rows (row_change s.rows h.puts.machine h.puts.next (Some h.key) h.puts.pending) → IsSpent u id
taken_spent s x words id u h sound later rises is =
    let change = row_change s.rows h.puts.machine h.puts.next (Some h.key) h.puts.pending in
    let put : AuthKey = record h.key { used = true } in
    let there : Contains (after s.rows change).keys put = put_there (λ (r : AuthKey). r.id) (take_all_out s.rows change.gone).keys put in
    let here : Contains u.keys put = subst (λ (t : Rows). Contains t.keys put) (sym is) there in
    let taken = taken_usable s x words id h in
    let below : taken.0.id < s.rows.next.key = (sound.keys.ids taken.0 taken.1).1 in
    let same : taken.0.id ≡ id = sym (ap (λ (k : AuthKey). k.id) taken.3) ∙ h.id_is in
    let one = λ (k : AuthKey) (inside : Contains u.keys k) (id_is : k.id ≡ id). one_key_row u k put later inside here (id_is ∙ sym h.id_is) in
    record {
      given = omega (arith, below, same, rises);
      used = λ k inside id_is. ap (λ (r : AuthKey). r.used) (one k inside id_is);
      single = λ k inside id_is. ap (λ (r : AuthKey). r.reusable) (one k inside id_is) ∙ h.single;
    }

step_spent : (s : State) (e : Event) (id : ℕ) → AreSettings s.settings → AreSound s.rows → IsShortEvent e → EventTakesKey s e id → IsSpent (step s e).state.rows id
step_spent s (event.Ask (ask.Seed text) moment words) id hold sound short h = absurd h
step_spent s (event.Ask (ask.Operator x) moment words) id hold sound short h = absurd h
step_spent s (event.Ask (ask.Policy x) moment words) id hold sound short h = absurd h
step_spent s (event.Ask (ask.Machine x) moment words) id hold sound short h =
    let e = event.Ask (ask.Machine x) moment words in
    let better = step_better s e hold (no_damage s.rows sound) short in
    taken_spent (at_moment s moment) x words id (step s e).state.rows h sound (sound_of (step s e).state.rows better.0) better.1.key
    (taken_rows (at_moment s moment) x words id h)
step_spent s (event.Attach mk node handle seq moment words) id hold sound short h = absurd h
step_spent s (event.Drain mk handle moment) id hold sound short h = absurd h
step_spent s (event.Detach mk handle moment) id hold sound short h = absurd h

event_spent : (s : State) (e : Event) (reply : Reply) (id : ℕ) → AreSettings s.settings → AreSound s.rows → IsShortEvent e → EventTakesKey s e id → IsDone reply → IsSpent (state_after s e reply).rows id
event_spent s e (Done a) id hold sound short h done = step_spent s e id hold sound short h
event_spent s e (Attached handle seq resumed may_wait) id hold sound short h done = step_spent s e id hold sound short h
event_spent s e (Frames responses) id hold sound short h done = step_spent s e id hold sound short h
event_spent s e Ended id hold sound short h done = step_spent s e id hold sound short h
event_spent s e Detached id hold sound short h done = step_spent s e id hold sound short h
event_spent s e (Refused r) id hold sound short h done = absurd done
event_spent s e (Lost loss) id hold sound short h done = absurd done

event_untaken : (s : State) (e : Event) (id : ℕ) → IsSpent s.rows id → EventTakesKey s e id → ⊥
event_untaken s (event.Ask (ask.Seed text) moment words) id spent h = h
event_untaken s (event.Ask (ask.Operator x) moment words) id spent h = h
event_untaken s (event.Ask (ask.Policy x) moment words) id spent h = h
event_untaken s (event.Ask (ask.Machine x) moment words) id spent h = spent_untaken (at_moment s moment) x words id spent h
event_untaken s (event.Attach mk node handle seq moment words) id spent h = h
event_untaken s (event.Drain mk handle moment) id spent h = h
event_untaken s (event.Detach mk handle moment) id spent h = h

-- after an entry that takes the key no entry takes it
taken_once : (s : State) (count : ℕ) (e : Entry) (between : List Entry) (f : Entry) (later : List Entry) (id : ℕ)
    → AreSettings s.settings → AreSound s.rows → Legal s count (e ∷ between ++ f ∷ later)
    → IsByKey s e id → IsByKey (replay s (e ∷ between)) f id → ⊥
taken_once s count e between f later id hold sound legal h k =
    let t = state_after s e.event e.reply in
    let better = after_better s e.event e.reply hold (no_damage s.rows sound) legal.1 in
    let spent = event_spent s e.event e.reply id hold sound legal.1 h.0 h.1 in
    let between_legal = legal_beginning t e.after between (f ∷ later) legal.4 in
    let settings = subst AreSettings (sym (after_settings s e.event e.reply)) hold in
    let still : IsSpent (replay t between).rows id = legal_keeps (λ u. IsSpent u id) (spent_lasts id) t e.after between settings better.0 between_legal spent in
    event_untaken (replay t between) f.event id still k.0

pub admits_once : (s : State) (count : ℕ) (before : List Entry) (e : Entry) (between : List Entry) (f : Entry) (later : List Entry) (id : ℕ)
    → AreSettings s.settings → AreSound s.rows → Legal s count (before ++ e ∷ between ++ f ∷ later)
    → IsByKey (replay s before) e id → IsByKey (replay s (before ++ e ∷ between)) f id → ⊥
admits_once s count [] e between f later id hold sound legal h k = taken_once s count e between f later id hold sound legal h k
admits_once s count (b ∷ before) e between f later id hold sound legal h k =
    let t = state_after s b.event b.reply in
    let better = after_better s b.event b.reply hold (no_damage s.rows sound) legal.1 in
    admits_once t b.after before e between f later id (subst AreSettings (sym (after_settings s b.event b.reply)) hold) (sound_of t.rows better.0) legal.4 h k
