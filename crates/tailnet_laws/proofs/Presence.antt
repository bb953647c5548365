-- Each row of a machine has one presence.
use Rattle.std.proofs.Common.{◌≡◌, ◌⊎◌, ◌∙◌, ℕ, ℤ, Bool, true, false, List, [], ◌∷◌, Option, Some, None, Result, Ok, Err, inl, inr, refl, sym, ap, subst, if◌then◌else◌}
use Rattle.std.specs.Prelude.{Contains}
use Rattle.net_rows.specs.Rows.{put, put_all, take_all_out, take_out}
use Rattle.net_rows.specs.Shelf.{HasRow, IsAscending, put_row, row_at, without}
use Rattle.net_rows.specs.Sound.{AreSound}
use Rattle.net_rows.specs.declared.change.Change.{Change}
use Rattle.net_rows.specs.declared.change.Row.{Row}
use Rattle.net_rows.specs.declared.change.RowKey.{RowKey}
use Rattle.net_rows.specs.declared.change.RowKey.TheVariants as gone
use Rattle.net_rows.specs.declared.machine.Machine.{Machine}
use Rattle.net_rows.specs.declared.rows.Rows.{Rows}
use Rattle.net_rows.proofs.Members.{cut_member, no_member}
use Rattle.net_rows.proofs.PutLemmas.{HasRow-put, IsAscending-put, put_there}
use Rattle.net_rows.proofs.RemoveLemmas.{HasRow-without, IsAscending-without, without_member}
use Rattle.net_rows.proofs.RowAt.{row_at_is}
use Rattle.settings.specs.declared.fields.SettingsFields.{SettingsFields}
use Rattle.peer_view.proofs.ListLemmas.{map_member}
use Rattle.desk_state.specs.Decisions.{rows_after}
use Rattle.desk_state.specs.State.{State, all_ended, all_offline, at_moment, forgotten, is_online, offline_at, presence_of}
use Rattle.desk_state.specs.declared.decision.Decision.{Decision}
use Rattle.desk_state.specs.declared.presence.MachinePresence.{MachinePresence}
use Rattle.desk_state.specs.declared.presence.Presence.TheVariants.{Online}
use Rattle.desk_state.specs.declared.refusal.Refusal.{Refusal}
use Rattle.admin_asks.specs.Decision as operator
use Rattle.machine_asks.specs.Attach.{attach}
use Rattle.machine_asks.specs.Decision as machine
use Rattle.machine_asks.specs.Detach.{detach}
use Rattle.machine_asks.specs.Drain.{drain}
use Rattle.machine_asks.specs.Seed.{seed}
use Rattle.machine_asks.specs.declared.attaching.AttachDecision.{AttachDecision}
use Rattle.machine_asks.specs.declared.draining.DrainDecision.{DrainDecision}
use Rattle.policy_asks.specs.Decision.{policy_decision}
use Rattle.tailnet_desk.specs.History.{replay, state_after}
use Rattle.tailnet_desk.specs.Opening.{opening}
use Rattle.tailnet_desk.specs.Step.{attach_turn, decision, detach_turn, drain_turn, left_after, moment_of, outcome, step}
use Rattle.tailnet_desk.specs.declared.ask.Ask.{Ask}
use Rattle.tailnet_desk.specs.declared.ask.Ask.TheVariants as ask
use Rattle.tailnet_desk.specs.declared.entry.Entry.{Entry}
use Rattle.tailnet_desk.specs.declared.entry.Event.{Event}
use Rattle.tailnet_desk.specs.declared.entry.Event.TheVariants as event
use Rattle.tailnet_desk.specs.declared.reply.Answer.{Answer}
use Rattle.tailnet_desk.specs.declared.reply.Answer.TheVariants as answer
use Rattle.tailnet_desk.proofs.Presences.{presence_rises}
use Rattle.tailnet_desk.proofs.SoundHistories.{after_any}
use Rattle.tailnet_laws.specs.Entering.{IsAdmission, IsKeyed}
use Rattle.tailnet_laws.specs.Presence.{ArePresent, HasOnePresence}
use Rattle.tailnet_laws.proofs.Growth.{machines_put}
use Rattle.tailnet_laws.proofs.MachinePuts.{machine_puts, seed_puts}
use Rattle.tailnet_laws.proofs.OperatorPuts.{operator_puts}
use Rattle.tailnet_laws.proofs.PolicyPuts.{NoneEnters, policy_puts}
use Rattle.tailnet_laws.proofs.Puts.{ArePlaced, HasPlace, HavePlaces, IsKeyPut, IsKeyUsed}
use Rattle.tailnet_laws.proofs.Steps.{answered_puts}

abbrev owner : MachinePresence → ℕ
owner p = p.id

-- each of the machines has a presence
abbrev AreMet : List Machine → List MachinePresence → Type 0
AreMet ms ps = (m : Machine) → Contains ms m → HasRow owner ps m.id

-- ---- machines go offline

has_put_if : (b : Bool) (ps : List MachinePresence) (p : MachinePresence) (k : ℕ) → HasRow owner ps k → HasRow owner (if b then put_row owner ps p else ps) k
has_put_if true ps p k h = HasRow-put owner ps p k h
has_put_if false ps p k h = h

has_ended : (now : ℤ) (ps : List MachinePresence) (ids : List ℕ) (k : ℕ) → HasRow owner ps k → HasRow owner (all_ended now ps ids) k
has_ended now ps [] k h = h
has_ended now ps (g ∷ ids) k h =
    has_ended now (if is_online (presence_of ps g) then put_row owner ps (offline_at now g) else ps) ids k
    (has_put_if (is_online (presence_of ps g)) ps (offline_at now g) k h)

has_offline : (now : ℤ) (ps : List MachinePresence) (ids : List ℕ) (k : ℕ) → HasRow owner ps k → HasRow owner (all_offline now ps ids) k
has_offline now ps [] k h = h
has_offline now ps (g ∷ ids) k h = has_offline now (put_row owner ps (offline_at now g)) ids k (HasRow-put owner ps (offline_at now g) k h)

-- those that go offline have a presence then
new_offline : (now : ℤ) (ps : List MachinePresence) (ids : List ℕ) (k : ℕ) → Contains ids k → HasRow owner (all_offline now ps ids) k
new_offline now ps [] k h = absurd (no_member k h)
new_offline now ps (g ∷ ids) k h =
    let put = put_row owner ps (offline_at now g) in
    elim (cut_member g ids k h) [
      | inl is ↦ has_offline now put ids k (offline_at now g, put_there owner ps (offline_at now g), sym is)
      | inr more ↦ new_offline now put ids k more
    ]

rise_put_if : (b : Bool) (ps : List MachinePresence) (p : MachinePresence) → IsAscending owner ps → IsAscending owner (if b then put_row owner ps p else ps)
rise_put_if true ps p h = IsAscending-put owner ps p h
rise_put_if false ps p h = h

rise_ended : (now : ℤ) (ps : List MachinePresence) (ids : List ℕ) → IsAscending owner ps → IsAscending owner (all_ended now ps ids)
rise_ended now ps [] h = h
rise_ended now ps (g ∷ ids) h =
    rise_ended now (if is_online (presence_of ps g) then put_row owner ps (offline_at now g) else ps) ids
    (rise_put_if (is_online (presence_of ps g)) ps (offline_at now g) h)

rise_offline : (now : ℤ) (ps : List MachinePresence) (ids : List ℕ) → IsAscending owner ps → IsAscending owner (all_offline now ps ids)
rise_offline now ps [] h = h
rise_offline now ps (g ∷ ids) h = rise_offline now (put_row owner ps (offline_at now g)) ids (IsAscending-put owner ps (offline_at now g) h)

rise_forgotten : (ps : List MachinePresence) (keys : List RowKey) → IsAscending owner ps → IsAscending owner (forgotten owner ps keys)
rise_forgotten ps [] h = h
rise_forgotten ps (gone.Machine g ∷ keys) h = rise_forgotten (without owner ps g) keys (IsAscending-without owner ps g h)
rise_forgotten ps (gone.User g ∷ keys) h = rise_forgotten ps keys h
rise_forgotten ps (gone.Key g ∷ keys) h = rise_forgotten ps keys h
rise_forgotten ps (gone.Pending g ∷ keys) h = rise_forgotten ps keys h

rise_left : (ps : List MachinePresence) (change : Option Change) → IsAscending owner ps → IsAscending owner (left_after owner ps change)
rise_left ps None h = h
rise_left ps (Some c) h = rise_forgotten ps c.gone h

-- ---- rows go, and are put

gone_met : (t : Rows) (ps : List MachinePresence) (keys : List RowKey) → AreMet t.machines ps → AreMet (take_all_out t keys).machines (forgotten owner ps keys)
gone_met t ps [] h = h
gone_met t ps (gone.Machine g ∷ keys) h =
    gone_met (take_out t (gone.Machine g)) (without owner ps g) keys
    (λ m inside. let was = without_member (λ (r : Machine). r.id) t.machines g m inside in HasRow-without owner ps g m.id (h m was.0) was.1)
gone_met t ps (gone.User g ∷ keys) h = gone_met (take_out t (gone.User g)) ps keys h
gone_met t ps (gone.Key g ∷ keys) h = gone_met (take_out t (gone.Key g)) ps keys h
gone_met t ps (gone.Pending g ∷ keys) h = gone_met (take_out t (gone.Pending g)) ps keys h

-- a machine whose row was there, or that is offline from now on
abbrev IsKnown : Rows → List ℕ → Machine → Type 0
IsKnown t offline m = HasRow (λ (r : Machine). r.id) t.machines m.id ⊎ Contains offline m.id

put_known : (t u : Rows) (offline : List ℕ) (x : Row) → HasPlace t offline x → ((m : Machine) → Contains u.machines m → IsKnown t offline m)
    → (m : Machine) → Contains (put u x).machines m → IsKnown t offline m
put_known t u offline x place h m inside = elim (machines_put u x m inside) [ inl is ↦ subst (HasPlace t offline) is place | inr was ↦ h m was ]

all_known : (t u : Rows) (offline : List ℕ) (xs : List Row) → HavePlaces t offline xs → ((m : Machine) → Contains u.machines m → IsKnown t offline m)
    → (m : Machine) → Contains (put_all u xs).machines m → IsKnown t offline m
all_known t u offline [] places h m inside = h m inside
all_known t u offline (x ∷ xs) places h m inside = all_known t (put u x) offline xs places.1 (put_known t u offline x places.0 h) m inside

settled_met : (now : ℤ) (t : Rows) (ps : List MachinePresence) (change : Option Change) (ended offline : List ℕ) → AreMet t.machines ps
    → ((c : Change) → change ≡ Some c → ArePlaced t offline c)
    → AreMet (rows_after t change).machines (all_offline now (all_ended now (left_after owner ps change) ended) offline)
settled_met now t ps None ended offline h placed m inside = has_offline now (all_ended now ps ended) offline m.id (has_ended now ps ended m.id (h m inside))
settled_met now t ps (Some c) ended offline h placed m inside =
    let u = take_all_out t c.gone in
    let qs = forgotten owner ps c.gone in
    elim (all_known u u offline c.puts (placed c refl) (λ a there. inl (a, there, refl)) m inside) [
      | inl row ↦
          let has = subst (λ (k : ℕ). HasRow owner qs k) row.2 (gone_met t ps c.gone h row.0 row.1) in
          has_offline now (all_ended now qs ended) offline m.id (has_ended now qs ended m.id has)
      | inr new ↦ new_offline now (all_ended now qs ended) offline m.id new
    ]

-- ---- decisions

-- what is decided puts each machine's row where one stood, or the machine is offline from then on
abbrev IsPlaced : Rows → Result (Decision Answer) Refusal → Type 0
IsPlaced t r = (d : Decision Answer) → r ≡ Ok d → (c : Change) → d.change ≡ Some c → ArePlaced t d.offline c

ask_placed : (s : State) (x : Ask) (words : Option (List ℕ)) → IsPlaced s.rows (decision s x words)
ask_placed s (ask.Seed text) words d is c e = (answered_puts (λ _. answer.Seeded) s.rows (IsKeyPut s.rows) (λ _. ⊥) (seed s text) (seed_puts s text) d is c e).1
ask_placed s (ask.Machine x) words d is c e = (answered_puts answer.Machine s.rows (IsKeyUsed s.rows) (IsKeyed x) (machine.decision s x words) (machine_puts s x words) d is c e).1
ask_placed s (ask.Operator x) words d is c e = (answered_puts answer.Operator s.rows (IsKeyPut s.rows) (IsAdmission s x) (operator.decision s x words) (operator_puts s x words) d is c e).1
ask_placed s (ask.Policy x) words d is c e = (answered_puts answer.Policy s.rows (IsKeyPut s.rows) NoneEnters (policy_decision s x) (policy_puts s x) d is c e).1

outcome_present : (s : State) (r : Result (Decision Answer) Refusal) → IsPlaced s.rows r → ArePresent s → ArePresent (outcome s r).state
outcome_present s (Err e) placed h = h
outcome_present s (Ok d) placed h =
    let ps = left_after owner s.presence d.change in
    record {
      rise = rise_offline s.now (all_ended s.now ps d.ended) d.offline (rise_ended s.now ps d.ended (rise_left s.presence d.change h.rise));
      each = settled_met s.now s.rows s.presence d.change d.ended d.offline h.each (λ c e. placed d refl c e);
    }

-- ---- polls

attach_present : (s : State) (r : Result AttachDecision Refusal) → ArePresent s → ArePresent (attach_turn s r).state
attach_present s (Err e) h = h
attach_present s (Ok d) h =
    let p : MachinePresence = record { id = d.id; presence = Online } in
    record { rise = IsAscending-put owner s.presence p h.rise; each = λ m inside. HasRow-put owner s.presence p m.id (h.each m inside) }

drain_present : (s : State) (o : Option DrainDecision) → ArePresent s → ArePresent (drain_turn s o).state
drain_present s None h = h
drain_present s (Some d) h = record { rise = h.rise; each = h.each }

detach_present : (s : State) (o : Option ℕ) → ArePresent s → ArePresent (detach_turn s o).state
detach_present s None h = h
detach_present s (Some id) h = record {
  rise = rise_ended s.now s.presence (id ∷ []) h.rise;
  each = λ m inside. has_ended s.now s.presence (id ∷ []) m.id (h.each m inside);
}

moment_present : (s : State) (m : ℤ) → ArePresent s → ArePresent (at_moment s m)
moment_present s m h = record { rise = h.rise; each = h.each }

step_present : (s : State) (e : Event) → ArePresent s → ArePresent (step s e).state
step_present s (event.Ask x m words) h =
    outcome_present (at_moment s m) (decision (at_moment s m) x words) (ask_placed (at_moment s m) x words) (moment_present s m h)
step_present s (event.Attach mk node handle seq m words) h = attach_present (at_moment s m) (attach (at_moment s m) mk node handle seq words) (moment_present s m h)
step_present s (event.Drain mk handle m) h = drain_present (at_moment s m) (drain (at_moment s m) mk handle) (moment_present s m h)
step_present s (event.Detach mk handle m) h = detach_present (at_moment s m) (detach (at_moment s m) mk handle) (moment_present s m h)

pub replay_present : (s : State) (es : List Entry) → ArePresent s → ArePresent (replay s es)
replay_present s [] h = h
replay_present s (e ∷ es) h =
    replay_present (state_after s e.event e.reply) es
    (after_any ArePresent s e.event e.reply (step_present s e.event h) (moment_present s (moment_of e.event) h))

-- ---- the opening state, and what it comes to

pub opening_present : (settings : SettingsFields) (rows : Rows) (moment : ℤ) → AreSound rows → ArePresent (opening settings rows moment)
opening_present settings rows moment sound = record {
  rise = presence_rises moment rows.machines sound.machines.ascend;
  each = λ m inside. (offline_at moment m.id, map_member (λ (a : Machine). offline_at moment a.id) rows.machines m inside, refl);
}

pub one_presence : (s : State) (m : Machine) → ArePresent s → Contains s.rows.machines m → HasOnePresence s m
one_presence s m h inside =
    let found = h.each m inside in
    let its : row_at owner s.presence found.0.id ≡ Some found.0 = row_at_is owner s.presence found.0 h.rise found.1 in
    record {
      presence = found.0;
      inside = found.1;
      own = found.2;
      alone = λ other there is.
          let at : row_at owner s.presence other.id ≡ Some other = row_at_is owner s.presence other h.rise there in
          let both : Some other ≡ Some found.0 = sym at ∙ ap (λ (k : ℕ). row_at owner s.presence k) (is ∙ sym found.2) ∙ its in
          let same : other ≡ found.0 = cc in
          same;
    }
