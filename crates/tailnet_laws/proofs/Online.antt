-- A machine is online exactly while a poll holds its session, and what a poll holds is a session.
use Rattle.std.proofs.Common.{◌≡◌, ◌∙◌, ◌==◌, ℕ, ℤ, Bool, true, false, List, [], ◌∷◌, Option, Some, None, Result, Ok, Err, inl, inr, refl, sym, ap, subst, cond, if◌then◌else◌}
use Rattle.std.specs.Prelude.{is_some, map}
use Rattle.std.specs.Option.{option_map}
use Rattle.std.proofs.lemmas.Bool.{cases_Bool, eq-eqb, eqb-true}
use Rattle.net_rows.specs.Shelf.{put_row, row_at, without}
use Rattle.net_rows.specs.declared.change.Change.{Change}
use Rattle.net_rows.specs.declared.change.RowKey.{RowKey}
use Rattle.net_rows.specs.declared.change.RowKey.TheVariants as gone
use Rattle.net_rows.specs.declared.machine.Machine.{Machine}
use Rattle.net_rows.specs.declared.rows.Rows.{Rows}
use Rattle.net_rows.proofs.MapLemmas.{row_at-put_row, row_at-without}
use Rattle.policy_rows.specs.declared.policy.Policy.{Policy}
use Rattle.settings.specs.declared.fields.SettingsFields.{SettingsFields}
use Rattle.desk_state.specs.Sessions.{is_attached, session_of}
use Rattle.desk_state.specs.State.{State, all_ended, all_offline, at_moment, forgotten, is_online, offline_at, presence_of, without_all}
use Rattle.desk_state.specs.declared.decision.Decision.{Decision}
use Rattle.desk_state.specs.declared.presence.MachinePresence.{MachinePresence}
use Rattle.desk_state.specs.declared.presence.Presence.TheVariants.{Online}
use Rattle.desk_state.specs.declared.refusal.Refusal.{Refusal}
use Rattle.desk_state.specs.declared.session.Attachment.{Attachment}
use Rattle.desk_state.specs.declared.session.Session.{Session}
use Rattle.machine_asks.specs.Attach.{attach, new_session, sessions_with}
use Rattle.machine_asks.specs.Detach.{detach}
use Rattle.machine_asks.specs.Drain.{drain}
use Rattle.machine_asks.specs.declared.attaching.AttachDecision.{AttachDecision}
use Rattle.machine_asks.specs.declared.draining.DrainDecision.{DrainDecision}
use Rattle.tailnet_desk.specs.History.{replay, state_after}
use Rattle.tailnet_desk.specs.Opening.{opening}
use Rattle.tailnet_desk.specs.Step.{attach_turn, decision, detach_turn, drain_turn, left_after, moment_of, outcome, settled, step}
use Rattle.tailnet_desk.specs.declared.entry.Entry.{Entry}
use Rattle.tailnet_desk.specs.declared.entry.Event.{Event}
use Rattle.tailnet_desk.specs.declared.entry.Event.TheVariants as event
use Rattle.tailnet_desk.specs.declared.reply.Answer.{Answer}
use Rattle.tailnet_desk.proofs.SoundHistories.{after_any}
use Rattle.tailnet_laws.specs.Online.{AreOnlineByPolls}
use Rattle.tailnet_desk.proofs.Attaches.{IsEither, attach_either}

-- the machine of an id is online by these
abbrev online : List MachinePresence → ℕ → Bool
online ps k = is_online (presence_of ps k)

abbrev online_of : Option MachinePresence → Bool
online_of o = is_online (option_map (λ (p : MachinePresence). p.presence) o)

-- both say the same of each id
abbrev Agree : List MachinePresence → List Attachment → Type 0
Agree ps hs = (k : ℕ) → online ps k ≡ is_attached hs k

-- ---- one row goes or is put

none_online : (b : Bool) (o : Option MachinePresence) → online_of (cond b None o) ≡ cond b false (online_of o)
none_online true o = refl
none_online false o = refl

online_without : (ps : List MachinePresence) (g k : ℕ) → online (without (λ (p : MachinePresence). p.id) ps g) k ≡ cond (g == k) false (online ps k)
online_without ps g k =
    ap (λ (o : Option MachinePresence). online_of o) (row_at-without (λ (p : MachinePresence). p.id) ps g k) ∙ none_online (g == k) (row_at (λ (p : MachinePresence). p.id) ps k)

put_online : (b : Bool) (x : MachinePresence) (o : Option MachinePresence) → online_of (cond b (Some x) o) ≡ cond b (is_online (Some x.presence)) (online_of o)
put_online true x o = refl
put_online false x o = refl

online_put : (ps : List MachinePresence) (x : MachinePresence) (k : ℕ) → online (put_row (λ (p : MachinePresence). p.id) ps x) k ≡ cond (x.id == k) (is_online (Some x.presence)) (online ps k)
online_put ps x k =
    ap (λ (o : Option MachinePresence). online_of o) (row_at-put_row (λ (p : MachinePresence). p.id) ps x k) ∙ put_online (x.id == k) x (row_at (λ (p : MachinePresence). p.id) ps k)

none_held : (b : Bool) (o : Option Attachment) → is_some (cond b None o) ≡ cond b false (is_some o)
none_held true o = refl
none_held false o = refl

held_without : (hs : List Attachment) (g k : ℕ) → is_attached (without (λ (a : Attachment). a.id) hs g) k ≡ cond (g == k) false (is_attached hs k)
held_without hs g k =
    ap (λ (o : Option Attachment). is_some o) (row_at-without (λ (a : Attachment). a.id) hs g k) ∙ none_held (g == k) (row_at (λ (a : Attachment). a.id) hs k)

put_held : (b : Bool) (x : Attachment) (o : Option Attachment) → is_some (cond b (Some x) o) ≡ cond b true (is_some o)
put_held true x o = refl
put_held false x o = refl

held_put : (hs : List Attachment) (x : Attachment) (k : ℕ) → is_attached (put_row (λ (a : Attachment). a.id) hs x) k ≡ cond (x.id == k) true (is_attached hs k)
held_put hs x k =
    ap (λ (o : Option Attachment). is_some o) (row_at-put_row (λ (a : Attachment). a.id) hs x k) ∙ put_held (x.id == k) x (row_at (λ (a : Attachment). a.id) hs k)

-- ---- several go

without_agree : (ps : List MachinePresence) (hs : List Attachment) (g : ℕ) → Agree ps hs → Agree (without (λ (p : MachinePresence). p.id) ps g) (without (λ (a : Attachment). a.id) hs g)
without_agree ps hs g h k = online_without ps g k ∙ ap (cond (g == k) false) (h k) ∙ sym (held_without hs g k)

forgotten_agree : (ps : List MachinePresence) (hs : List Attachment) (keys : List RowKey) → Agree ps hs
    → Agree (forgotten (λ (p : MachinePresence). p.id) ps keys) (forgotten (λ (a : Attachment). a.id) hs keys)
forgotten_agree ps hs [] h = h
forgotten_agree ps hs (gone.Machine g ∷ keys) h =
    forgotten_agree (without (λ (p : MachinePresence). p.id) ps g) (without (λ (a : Attachment). a.id) hs g) keys (without_agree ps hs g h)
forgotten_agree ps hs (gone.User g ∷ keys) h = forgotten_agree ps hs keys h
forgotten_agree ps hs (gone.Key g ∷ keys) h = forgotten_agree ps hs keys h
forgotten_agree ps hs (gone.Pending g ∷ keys) h = forgotten_agree ps hs keys h

left_agree : (ps : List MachinePresence) (hs : List Attachment) (change : Option Change) → Agree ps hs
    → Agree (left_after (λ (p : MachinePresence). p.id) ps change) (left_after (λ (a : Attachment). a.id) hs change)
left_agree ps hs None h = h
left_agree ps hs (Some c) h = forgotten_agree ps hs c.gone h

-- a machine that goes offline, if it was online
abbrev ended : ℤ → List MachinePresence → ℕ → List MachinePresence
ended moment ps g = if is_online (presence_of ps g) then put_row (λ (p : MachinePresence). p.id) ps (offline_at moment g) else ps

not_online : (ps : List MachinePresence) (g k : ℕ) (b : Bool) → (g == k) ≡ b → online ps g ≡ false → online ps k ≡ cond b false (online ps k)
not_online ps g k true same off = ap (λ (j : ℕ). online ps j) (sym (eqb-true g k same)) ∙ off
not_online ps g k false other off = refl

online_ended : (moment : ℤ) (ps : List MachinePresence) (g k : ℕ) → online (ended moment ps g) k ≡ cond (g == k) false (online ps k)
online_ended moment ps g k = elim (cases_Bool (online ps g)) [
  | inl on ↦ rw on (online_put ps (offline_at moment g) k)
  | inr off ↦ rw off (not_online ps g k (g == k) refl off)
]

ended_agree : (moment : ℤ) (ps : List MachinePresence) (hs : List Attachment) (ids : List ℕ) → Agree ps hs
    → Agree (all_ended moment ps ids) (without_all (λ (a : Attachment). a.id) hs ids)
ended_agree moment ps hs [] h = h
ended_agree moment ps hs (g ∷ ids) h =
    ended_agree moment (ended moment ps g) (without (λ (a : Attachment). a.id) hs g) ids
    (λ k. online_ended moment ps g k ∙ ap (cond (g == k) false) (h k) ∙ sym (held_without hs g k))

offline_agree : (moment : ℤ) (ps : List MachinePresence) (hs : List Attachment) (ids : List ℕ) → Agree ps hs
    → Agree (all_offline moment ps ids) (without_all (λ (a : Attachment). a.id) hs ids)
offline_agree moment ps hs [] h = h
offline_agree moment ps hs (g ∷ ids) h =
    offline_agree moment (put_row (λ (p : MachinePresence). p.id) ps (offline_at moment g)) (without (λ (a : Attachment). a.id) hs g) ids
    (λ k. online_put ps (offline_at moment g) k ∙ ap (cond (g == k) false) (h k) ∙ sym (held_without hs g k))

-- ---- what a poll holds is a session

-- where a poll holds something, there is a session
abbrev AreThere : List Attachment → List Session → Type 0
AreThere hs xs = (k : ℕ) → is_attached hs k ≡ true → is_some (session_of xs k) ≡ true

none_there : (b : Bool) (o : Option Session) → is_some (cond b None o) ≡ cond b false (is_some o)
none_there true o = refl
none_there false o = refl

there_without : (xs : List Session) (g k : ℕ) → is_some (session_of (without (λ (x : Session). x.id) xs g) k) ≡ cond (g == k) false (is_some (session_of xs k))
there_without xs g k =
    ap (λ (o : Option Session). is_some o) (row_at-without (λ (x : Session). x.id) xs g k) ∙ none_there (g == k) (row_at (λ (x : Session). x.id) xs k)

put_there : (b : Bool) (x : Session) (o : Option Session) → is_some (cond b (Some x) o) ≡ cond b true (is_some o)
put_there true x o = refl
put_there false x o = refl

there_put : (xs : List Session) (x : Session) (k : ℕ) → is_some (session_of (put_row (λ (r : Session). r.id) xs x) k) ≡ cond (x.id == k) true (is_some (session_of xs k))
there_put xs x k =
    ap (λ (o : Option Session). is_some o) (row_at-put_row (λ (r : Session). r.id) xs x k) ∙ put_there (x.id == k) x (row_at (λ (r : Session). r.id) xs k)

neither : (b p q : Bool) → (p ≡ true → q ≡ true) → cond b false p ≡ true → cond b false q ≡ true
neither true p q f h = h
neither false p q f h = f h

either_way : (b q : Bool) → q ≡ true → cond b true q ≡ true
either_way true q h = refl
either_way false q h = h

both_without : (hs : List Attachment) (xs : List Session) (g : ℕ) → AreThere hs xs → AreThere (without (λ (a : Attachment). a.id) hs g) (without (λ (x : Session). x.id) xs g)
both_without hs xs g h k on =
    there_without xs g k ∙ neither (g == k) (is_attached hs k) (is_some (session_of xs k)) (h k) (sym (held_without hs g k) ∙ on)

both_forgotten : (hs : List Attachment) (xs : List Session) (keys : List RowKey) → AreThere hs xs
    → AreThere (forgotten (λ (a : Attachment). a.id) hs keys) (forgotten (λ (x : Session). x.id) xs keys)
both_forgotten hs xs [] h = h
both_forgotten hs xs (gone.Machine g ∷ keys) h =
    both_forgotten (without (λ (a : Attachment). a.id) hs g) (without (λ (x : Session). x.id) xs g) keys (both_without hs xs g h)
both_forgotten hs xs (gone.User g ∷ keys) h = both_forgotten hs xs keys h
both_forgotten hs xs (gone.Key g ∷ keys) h = both_forgotten hs xs keys h
both_forgotten hs xs (gone.Pending g ∷ keys) h = both_forgotten hs xs keys h

both_left : (hs : List Attachment) (xs : List Session) (change : Option Change) → AreThere hs xs
    → AreThere (left_after (λ (a : Attachment). a.id) hs change) (left_after (λ (x : Session). x.id) xs change)
both_left hs xs None h = h
both_left hs xs (Some c) h = both_forgotten hs xs c.gone h

both_all : (hs : List Attachment) (xs : List Session) (ids : List ℕ) → AreThere hs xs
    → AreThere (without_all (λ (a : Attachment). a.id) hs ids) (without_all (λ (x : Session). x.id) xs ids)
both_all hs xs [] h = h
both_all hs xs (g ∷ ids) h = both_all (without (λ (a : Attachment). a.id) hs g) (without (λ (x : Session). x.id) xs g) ids (both_without hs xs g h)

-- one more is held, which is a session
held_more : (hs : List Attachment) (xs : List Session) (a : Attachment) → AreThere hs xs → is_some (session_of xs a.id) ≡ true → AreThere (put_row (λ (x : Attachment). x.id) hs a) xs
held_more hs xs a h there k on = go (a.id == k) refl
  where
    go : (b : Bool) → (a.id == k) ≡ b → is_some (session_of xs k) ≡ true
    go true same = ap (λ (j : ℕ). is_some (session_of xs j)) (sym (eqb-true a.id k same)) ∙ there
    go false other =
        let still : cond (a.id == k) true (is_attached hs k) ≡ true = sym (held_put hs a k) ∙ on in
        h k (rw other at still)

there_more : (hs : List Attachment) (xs : List Session) (x : Session) → AreThere hs xs → AreThere hs (put_row (λ (r : Session). r.id) xs x)
there_more hs xs x h k on = there_put xs x k ∙ either_way (x.id == k) (is_some (session_of xs k)) (h k on)

fewer_held : (hs : List Attachment) (xs : List Session) (g : ℕ) → AreThere hs xs → AreThere (without (λ (a : Attachment). a.id) hs g) xs
fewer_held hs xs g h k on = h k (go (g == k) (sym (held_without hs g k) ∙ on))
  where
    go : (b : Bool) → cond b false (is_attached hs k) ≡ true → is_attached hs k ≡ true
    go true e = absurd (cc)
    go false e = e

-- ---- steps

settled_online : (s : State) (change : Option Change) (policy : Option Policy) (stopped offline : List ℕ) → AreOnlineByPolls s → AreOnlineByPolls (settled s change policy stopped offline)
settled_online s change policy stopped offline h =
    let ps = left_after (λ (p : MachinePresence). p.id) s.presence change in
    let hs = left_after (λ (a : Attachment). a.id) s.attached change in
    let xs = left_after (λ (x : Session). x.id) s.sessions change in
    record {
      online = offline_agree s.now (all_ended s.now ps stopped) (without_all (λ (a : Attachment). a.id) hs stopped) offline
          (ended_agree s.now ps hs stopped (left_agree s.presence s.attached change h.online));
      held = both_all (without_all (λ (a : Attachment). a.id) hs stopped) (without_all (λ (x : Session). x.id) xs stopped) offline
          (both_all hs xs stopped (both_left s.attached s.sessions change h.held));
    }

outcome_online : (s : State) (r : Result (Decision Answer) Refusal) → AreOnlineByPolls s → AreOnlineByPolls (outcome s r).state
outcome_online s (Err e) h = h
outcome_online s (Ok d) h = settled_online s d.change d.policy d.ended d.offline h

-- the session that is attached is there
attached_there : (s : State) (d : AttachDecision) → IsEither s d → is_some (session_of (sessions_with s.sessions d.begun) d.id) ≡ true
attached_there s d (inl on) =
    subst (λ (e : AttachDecision). is_some (session_of (sessions_with s.sessions e.begun) e.id) ≡ true) on.2 (ap (λ (o : Option Session). is_some o) on.1)
attached_there s d (inr begins) =
    let new = new_session s begins.0 begins.1 in
    let same : (new.id == begins.0) ≡ true = eq-eqb new.id begins.0 refl in
    subst (λ (e : AttachDecision). is_some (session_of (sessions_with s.sessions e.begun) e.id) ≡ true) begins.3
    (there_put s.sessions new begins.0 ∙ rw same refl)

sessions_there : (hs : List Attachment) (xs : List Session) (o : Option Session) → AreThere hs xs → AreThere hs (sessions_with xs o)
sessions_there hs xs None h = h
sessions_there hs xs (Some x) h = there_more hs xs x h

attach_online : (s : State) (r : Result AttachDecision Refusal) → ((d : AttachDecision) → r ≡ Ok d → IsEither s d) → AreOnlineByPolls s → AreOnlineByPolls (attach_turn s r).state
attach_online s (Err e) either h = h
attach_online s (Ok d) either h =
    let place : Attachment = record { id = d.id; may_wait = d.may_wait } in
    record {
      online = λ k.
          online_put s.presence (record { id = d.id; presence = Online }) k ∙ ap (cond (d.id == k) true) (h.online k) ∙ sym (held_put s.attached place k);
      held = held_more s.attached (sessions_with s.sessions d.begun) place (sessions_there s.attached s.sessions d.begun h.held) (attached_there s d (either d refl));
    }

drain_online : (s : State) (o : Option DrainDecision) → AreOnlineByPolls s → AreOnlineByPolls (drain_turn s o).state
drain_online s None h = h
drain_online s (Some d) h = record { online = h.online; held = there_more s.attached s.sessions d.session h.held }

detach_online : (s : State) (o : Option ℕ) → AreOnlineByPolls s → AreOnlineByPolls (detach_turn s o).state
detach_online s None h = h
detach_online s (Some id) h = record {
  online = ended_agree s.now s.presence s.attached (id ∷ []) h.online;
  held = fewer_held s.attached s.sessions id h.held;
}

moment_online : (s : State) (m : ℤ) → AreOnlineByPolls s → AreOnlineByPolls (at_moment s m)
moment_online s m h = record { online = h.online; held = h.held }

step_online : (s : State) (e : Event) → AreOnlineByPolls s → AreOnlineByPolls (step s e).state
step_online s (event.Ask x m words) h = outcome_online (at_moment s m) (decision (at_moment s m) x words) (moment_online s m h)
step_online s (event.Attach mk node handle seq m words) h =
    attach_online (at_moment s m) (attach (at_moment s m) mk node handle seq words) (λ d e. attach_either (at_moment s m) mk node handle seq words d e) (moment_online s m h)
step_online s (event.Drain mk handle m) h = drain_online (at_moment s m) (drain (at_moment s m) mk handle) (moment_online s m h)
step_online s (event.Detach mk handle m) h = detach_online (at_moment s m) (detach (at_moment s m) mk handle) (moment_online s m h)

pub replay_online : (s : State) (es : List Entry) → AreOnlineByPolls s → AreOnlineByPolls (replay s es)
replay_online s [] h = h
replay_online s (e ∷ es) h =
    replay_online (state_after s e.event e.reply) es
    (after_any AreOnlineByPolls s e.event e.reply (step_online s e.event h) (moment_online s (moment_of e.event) h))

-- ---- the opening state

all_off : (moment : ℤ) (machines : List Machine) (k : ℕ) → online (map (λ (m : Machine). offline_at moment m.id) machines) k ≡ false
all_off moment [] k = refl
all_off moment (m ∷ ms) k = elim (cases_Bool (m.id == k)) [
  | inl here ↦ rw here refl
  | inr other ↦ rw other (all_off moment ms k)
]

none_attached : (id : ℕ) → false ≡ true → is_some (session_of [] id) ≡ true
none_attached id h = absurd (cc)

pub opening_online : (settings : SettingsFields) (rows : Rows) (moment : ℤ) → AreOnlineByPolls (opening settings rows moment)
opening_online settings rows moment = record { online = all_off moment rows.machines; held = none_attached }
