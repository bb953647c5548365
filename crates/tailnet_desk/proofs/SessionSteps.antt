-- What each step leaves of the rules of sessions.
use Rattle.std.proofs.Common.{◌≡◌, ◌^◌, ◌==◌, ℕ, ℤ, Bool, true, false, List, Option, Some, None, Result, Ok, Err, inl, inr, refl, sym, ap, subst, ltb, if◌then◌else◌}
use Rattle.std.specs.Prelude.{Contains, filter}
use Rattle.std.specs.Str.{bytes_eq}
use Rattle.std.proofs.lemmas.Bool.{and_parts, eq-eqb}
use Rattle.tail_base.specs.declared.key.MachineKey.{MachineKey}
use Rattle.tail_base.specs.declared.key.NodeKey.{NodeKey}
use Rattle.tail_base.proofs.Bools.{bytes_eq-true}
use Rattle.net_rows.specs.Damage.{damage}
use Rattle.net_rows.specs.Rows.{machine_of}
use Rattle.net_rows.specs.declared.change.Change.{Change}
use Rattle.net_rows.specs.declared.machine.Machine.{Machine}
use Rattle.net_rows.proofs.Members.{list_any_is}
use Rattle.peer_view.specs.Seen.{live_node}
use Rattle.peer_view.proofs.ListLemmas.{filtered_member, map_member}
use Rattle.policy_sites.specs.Sites.{is_among}
use Rattle.fresh_maps.specs.InOrder.{IsInOrder}
use Rattle.fresh_maps.specs.declared.view.View.{View}
use Rattle.fresh_maps.proofs.OrderLemmas.{map_in_order}
use Rattle.desk_state.specs.Sessions.{session_of}
use Rattle.desk_state.specs.State.{State, at_moment, is_live, live_ids}
use Rattle.desk_state.specs.declared.decision.Decision.{Decision}
use Rattle.desk_state.specs.declared.refusal.Refusal.{Refusal}
use Rattle.desk_state.specs.declared.session.Session.{Session}
use Rattle.machine_asks.specs.Attach.{attach, attached_state}
use Rattle.machine_asks.specs.Detach.{is_held_under}
use Rattle.machine_asks.specs.Drain.{drain, drain_machine, drain_session, drained_state, if_live, is_drained, session_drained}
use Rattle.machine_asks.specs.OneMap.{IsLiveRow, fresh_for, node_in, online_ids, world_of}
use Rattle.machine_asks.specs.declared.attaching.AttachDecision.{AttachDecision}
use Rattle.machine_asks.specs.declared.draining.DrainDecision.{DrainDecision}
use Rattle.machine_asks.proofs.Drains.{live_row}
use Rattle.tailnet_desk.specs.Step.{attach_turn, detach_turn, drain_turn, outcome, sessions_after}
use Rattle.tailnet_desk.specs.declared.reply.Answer.{Answer}
use Rattle.tailnet_desk.proofs.Attaches.{IsEither, attach_either}
use Rattle.tailnet_desk.specs.Sessions.{AreSoundSessions, KeepSessionRules, sent_to}
use Rattle.tailnet_desk.proofs.SessionRules.{AreKept, begun_kept, drained_kept, sent_held, settled_kept, settled_left, taken_kept}

-- a live machine is seen
pub live_inside : (s : State) (m : Machine) → IsLiveRow s m → Contains (world_of s).nodes (node_in s m)
live_inside s m h =
    let ids = live_ids s in
    let machines = s.rows.machines in
    let alive : Contains (filter (is_live s) machines) m = filtered_member (is_live s) machines m h.inside h.live in
    let inside : Contains ids m.id = map_member (λ (r : Machine). r.id) (filter (is_live s) machines) m alive in
    let listed : is_among ids m ≡ true = list_any_is (λ (other : ℕ). other == m.id) ids m.id inside (eq-eqb m.id m.id refl) in
    let here : Contains (filter (is_among ids) machines) m = filtered_member (is_among ids) machines m h.inside listed in
    map_member (live_node s.policy s.rows.users (online_ids s.presence)) (filter (is_among ids) machines) m here

pub fresh_order : (s : State) (m : Machine) → damage s.rows ≡ None → IsLiveRow s m → IsInOrder (fresh_for s m)
fresh_order s m kept h = map_in_order s.settings s.policy s.rows (live_ids s) (online_ids s.presence) (node_in s m) kept (live_inside s m h)

-- ---- decisions and attaches

pub outcome_kept : (s : State) (r : Result (Decision Answer) Refusal) (maps : List ℕ → Option View) → AreKept s maps → AreKept (outcome s r).state maps
outcome_kept s (Err e) maps h = h
outcome_kept s (Ok d) maps h = settled_kept s d.change d.policy d.ended d.offline maps h

either_kept : (s : State) (d : AttachDecision) (maps : List ℕ → Option View) → IsEither s d → AreKept s maps → AreKept (attached_state s d) maps
either_kept s d maps (inl on) h = subst (λ (x : AttachDecision). AreKept (attached_state s x) maps) on.2 (taken_kept s on.0 maps h)
either_kept s d maps (inr begins) h = subst (λ (x : AttachDecision). AreKept (attached_state s x) maps) begins.3 (begun_kept s begins.0 begins.1 begins.2 maps h)

pub attach_kept : (s : State) (r : Result AttachDecision Refusal) (maps : List ℕ → Option View) → ((d : AttachDecision) → r ≡ Ok d → IsEither s d) → AreKept s maps → AreKept (attach_turn s r).state maps
attach_kept s (Err e) maps either h = h
attach_kept s (Ok d) maps either h = either_kept s d maps (either d refl) h

pub detach_kept : (s : State) (o : Option ℕ) (maps : List ℕ → Option View) → AreKept s maps → AreKept (detach_turn s o).state maps
detach_kept s None maps h = h
detach_kept s (Some id) maps h = record {
  sessions = record { rise = h.sessions.rise; given = h.sessions.given; apart = h.sessions.apart; order = h.sessions.order; domain = h.sessions.domain; unsent = h.sessions.unsent };
  held = record { sent = h.held.sent; coming = h.held.coming };
}

pub moment_kept : (s : State) (m : ℤ) (maps : List ℕ → Option View) → AreKept s maps → AreKept (at_moment s m) maps
moment_kept s m maps h = record {
  sessions = record { rise = h.sessions.rise; given = h.sessions.given; apart = h.sessions.apart; order = h.sessions.order; domain = h.sessions.domain; unsent = h.sessions.unsent };
  held = record { sent = h.held.sent; coming = h.held.coming };
}

-- ---- drains

-- a value behind a test
pub some_if : {A : Type 0} (b : Bool) (x y : A) → (if b then Some x else None) ≡ Some y → (b ≡ true) × (x ≡ y)
some_if true x y h = (refl, cc)
some_if false x y h = absurd (cc)

-- whose session is drained, and which
pub record Drains (s : State) (mk : MachineKey) (handle : List ℕ) (d : DrainDecision) : Type 0 where
  pub machine : Machine
  pub session : Session
  pub row : machine_of s.rows.machines mk.0 ≡ Some machine
  pub live : IsLiveRow s machine
  pub found : session_of s.sessions machine.id ≡ Some session
  pub under : session.handle ≡ handle
  pub is : session_drained s machine session ≡ d

live_if : (s : State) (o : Option Machine) (m : Machine) → if_live s o ≡ Some m → o ≡ Some m
live_if s None m h = absurd (cc)
live_if s (Some r) m h = ap (λ (x : Machine). Some x) (some_if (is_live s r) r m h).1

session_drains : (s : State) (mk : MachineKey) (handle : List ℕ) (m : Machine) (o : Option Session) (d : DrainDecision) → if_live s (machine_of s.rows.machines mk.0) ≡ Some m
    → session_of s.sessions m.id ≡ o → drain_session s handle m o ≡ Some d → Drains s mk handle d
session_drains s mk handle m None d here is h = absurd (cc)
session_drains s mk handle m (Some x) d here is h =
    let parts = some_if (is_drained s handle x) (session_drained s m x) d h in
    let tests = and_parts (is_held_under s handle x) (ltb x.seq (2 ^ 63)) parts.0 in
    let holds = and_parts _ (bytes_eq x.handle handle) tests.0 in
    record {
      machine = m;
      session = x;
      row = live_if s (machine_of s.rows.machines mk.0) m here;
      live = live_row s mk m here;
      found = is;
      under = bytes_eq-true x.handle handle holds.1;
      is = parts.1;
    }

machine_drains : (s : State) (mk : MachineKey) (handle : List ℕ) (o : Option Machine) (d : DrainDecision) → if_live s (machine_of s.rows.machines mk.0) ≡ o → drain_machine s handle o ≡ Some d → Drains s mk handle d
machine_drains s mk handle None d is h = absurd (cc)
machine_drains s mk handle (Some m) d is h = session_drains s mk handle m (session_of s.sessions m.id) d is refl h

pub drains : (s : State) (mk : MachineKey) (handle : List ℕ) (d : DrainDecision) → drain s mk handle ≡ Some d → Drains s mk handle d
drains s mk handle d h = machine_drains s mk handle (if_live s (machine_of s.rows.machines mk.0)) d refl h

-- ---- the rules of sessions alone

-- each client has what was sent to it
abbrev as_sent : (s : State) → AreSoundSessions s → AreKept s (sent_to s.sessions)
as_sent s h = record { sessions = h; held = sent_held s h }

-- what is left of sessions after a change, and after some have ended
pub left_sessions : (base : List ℕ) (next later : ℕ) (xs ys : List Session) (change : Option Change) (ended offline : List ℕ)
    → ys ≡ sessions_after (λ (x : Session). x.id) xs change ended offline → later ≡ next → KeepSessionRules base next xs → KeepSessionRules base later ys
left_sessions base next later xs ys change ended offline is same h =
    let left = settled_left xs change ended offline in
    subst (λ (zs : List Session). KeepSessionRules base later zs) (sym is) (subst (λ n. KeepSessionRules base n (sessions_after (λ (x : Session). x.id) xs change ended offline)) (sym same) (record {
      rise = left.0 h.rise;
      given = λ k x f. h.given k x (left.1 k x f);
      apart = λ j k x y f g e. h.apart j k x y (left.1 j x f) (left.1 k y g) e;
      order = λ k x map f e. h.order k x map (left.1 k x f) e;
      domain = λ k x map f e. h.domain k x map (left.1 k x f) e;
      unsent = λ k x f e. h.unsent k x (left.1 k x f) e;
    }))

pub attach_sessions : (s : State) (mk : MachineKey) (node : NodeKey) (handle : List ℕ) (seq : ℕ) (words : Option (List ℕ)) (d : AttachDecision)
    → AreSoundSessions s → attach s mk node handle seq words ≡ Ok d → AreSoundSessions (attached_state s d)
attach_sessions s mk node handle seq words d h is =
    (either_kept s d (sent_to s.sessions) (attach_either s mk node handle seq words d is) (as_sent s h)).sessions

pub drain_sessions : (s : State) (mk : MachineKey) (handle : List ℕ) (o : Option DrainDecision) → damage s.rows ≡ None
    → AreSoundSessions s → drain s mk handle ≡ o → AreSoundSessions (drain_turn s o).state
drain_sessions s mk handle None rows h is = h
drain_sessions s mk handle (Some d) rows h is =
    let x = drains s mk handle d is in
    let map = fresh_for s x.machine in
    let order = fresh_order s x.machine rows x.live in
    let kept = drained_kept s x.machine.id x.session map (sent_to s.sessions) (as_sent s h) x.found order refl in
    subst (λ (e : DrainDecision). AreSoundSessions (drained_state s e)) x.is kept.sessions
