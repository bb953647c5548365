-- The responses under a handle are numbered one by one, from 1 on.
use Rattle.std.proofs.Common.{◌≡◌, ◌<◌, ◌≤◌, ◌+◌, ◌^◌, ◌∙◌, ◌==◌, ◌++◌, ℕ, ℤ, Bool, true, false, List, [], ◌∷◌, length, Option, Some, None, Result, Ok, Err, arith, inl, inr, refl, sym, ap, subst, if◌then◌else◌}
use Rattle.std.specs.List.{find}
use Rattle.std.specs.Option.{option_map_or}
use Rattle.std.specs.Str.{bytes_eq}
use Rattle.std.proofs.lemmas.Bool.{both_ways, cases_Bool, eq-eqb}
use Rattle.tail_base.specs.declared.key.MachineKey.{MachineKey}
use Rattle.tail_base.proofs.Bools.{bytes_eq-from, bytes_eq-true}
use Rattle.net_rows.specs.Damage.{damage}
use Rattle.net_rows.specs.declared.rows.Rows.{Rows}
use Rattle.net_rows.proofs.Members.{find_member, find_none}
use Rattle.net_rows.proofs.RowAt.{row_at_is}
use Rattle.settings.specs.Settings.{AreSettings}
use Rattle.settings.specs.declared.fields.SettingsFields.{SettingsFields}
use Rattle.tailcfg.specs.declared.response.Response.{Response}
use Rattle.fresh_maps.specs.declared.view.View.{View}
use Rattle.map_delta.specs.Delta.{AreNumbered, responses_for}
use Rattle.map_delta.proofs.SessionLaws.{numbered_law}
use Rattle.desk_state.specs.Sessions.{session_of}
use Rattle.desk_state.specs.State.{State, at_moment}
use Rattle.desk_state.specs.Texts.{session_handle}
use Rattle.desk_state.specs.declared.decision.Decision.{Decision}
use Rattle.desk_state.specs.declared.refusal.Refusal.{Refusal}
use Rattle.desk_state.specs.declared.session.Session.{Session}
use Rattle.machine_asks.specs.Attach.{attach, attached_state, new_session, session_begun, session_taken_up}
use Rattle.machine_asks.specs.Detach.{detach}
use Rattle.machine_asks.specs.Drain.{drain, drained_state, session_at}
use Rattle.machine_asks.specs.OneMap.{fresh_for}
use Rattle.machine_asks.specs.declared.attaching.AttachDecision.{AttachDecision}
use Rattle.machine_asks.specs.declared.draining.DrainDecision.{DrainDecision}
use Rattle.tailnet_desk.specs.History.{IsReply, Legal, state_after}
use Rattle.tailnet_desk.specs.Opening.{opening}
use Rattle.tailnet_desk.specs.Step.{attach_turn, decision, detach_turn, drain_turn, moment_of, outcome, step}
use Rattle.tailnet_desk.specs.declared.entry.Entry.{Entry}
use Rattle.tailnet_desk.specs.declared.entry.Event.{Event}
use Rattle.tailnet_desk.specs.declared.entry.Event.TheVariants as event
use Rattle.tailnet_desk.specs.declared.reply.Answer.{Answer}
use Rattle.tailnet_desk.specs.declared.reply.Reply.{Reply}
use Rattle.tailnet_desk.specs.declared.reply.Reply.TheVariants.{Attached, Detached, Done, Ended, Frames, Lost, Refused}
use Rattle.tailnet_desk.proofs.SoundHistories.{after_any}
use Rattle.tailnet_laws.specs.Followed.{frames_in, frames_to, sent_under, views_after}
use Rattle.tailnet_laws.specs.Numbers.{sent_in}
use Rattle.tailnet_desk.specs.Sessions.{AreSoundSessions, sent_to}
use Rattle.tailnet_desk.proofs.Attaches.{IsEither, attach_either}
use Rattle.tailnet_laws.proofs.Following.{AreRuled, after_ruled, event_followed, force_sound, opening_kept}
use Rattle.tailnet_desk.proofs.SessionSteps.{Drains, drains}
use Rattle.tailnet_desk.proofs.SessionRules.{AreKept, not_given, one_session, sent_held, session_id, session_put, settled_left}

-- How many responses were sent under each handle: as many as the number of a session says, and none under a handle that
-- is still to be given.
pub record AreCounted (s : State) (counts : List ℕ → ℕ) : Type 0 where
  pub sent : (k : ℕ) (x : Session) → session_of s.sessions k ≡ Some x → counts x.handle ≡ x.seq
  pub coming : (n : ℕ) (words : List ℕ) → s.next_session ≤ n → n < 2 ^ 63 → counts (session_handle n words) ≡ 0

pub same_counted : (s : State) (counts others : List ℕ → ℕ) → ((handle : List ℕ) → others handle ≡ counts handle) → AreCounted s counts → AreCounted s others
same_counted s counts others same c = record {
  sent = λ k x f. same x.handle ∙ c.sent k x f;
  coming = λ n words above small. same (session_handle n words) ∙ c.coming n words above small;
}

-- ---- decisions and attaches

outcome_counted : (s : State) (r : Result (Decision Answer) Refusal) (counts : List ℕ → ℕ) → AreCounted s counts → AreCounted (outcome s r).state counts
outcome_counted s (Err e) counts c = c
outcome_counted s (Ok d) counts c =
    let left = settled_left s.sessions d.change d.ended d.offline in
    record { sent = λ k x f. c.sent k x (left.1 k x f); coming = c.coming }

taken_counted : (s : State) (x : Session) (counts : List ℕ → ℕ) → AreCounted s counts → AreCounted (attached_state s (session_taken_up s x)) counts
taken_counted s x counts c = record { sent = c.sent; coming = c.coming }

begun_counted : (s : State) (id : ℕ) (words : List ℕ) → s.next_session < 2 ^ 63 → (counts : List ℕ → ℕ) → AreCounted s counts → AreCounted (attached_state s (session_begun s id words)) counts
begun_counted s id words small counts c = record {
  sent = λ k x f. elim (session_put s.sessions (new_session s id words) k x f) [
    | inl new ↦ subst (λ (z : Session). counts z.handle ≡ z.seq) new.0 (c.coming s.next_session words (omega arith) small)
    | inr old ↦ c.sent k x old.0
  ];
  coming = λ n w above less. c.coming n w (omega arith) less;
}

either_counted : (s : State) (d : AttachDecision) (counts : List ℕ → ℕ) → IsEither s d → AreCounted s counts → AreCounted (attached_state s d) counts
either_counted s d counts (inl on) c = subst (λ (x : AttachDecision). AreCounted (attached_state s x) counts) on.2 (taken_counted s on.0 counts c)
either_counted s d counts (inr begins) c = subst (λ (x : AttachDecision). AreCounted (attached_state s x) counts) begins.3 (begun_counted s begins.0 begins.1 begins.2 counts c)

attach_counted : (s : State) (r : Result AttachDecision Refusal) (counts : List ℕ → ℕ) → ((d : AttachDecision) → r ≡ Ok d → IsEither s d) → AreCounted s counts → AreCounted (attach_turn s r).state counts
attach_counted s (Err e) counts either c = c
attach_counted s (Ok d) counts either c = either_counted s d counts (either d refl) c

detach_counted : (s : State) (o : Option ℕ) (counts : List ℕ → ℕ) → AreCounted s counts → AreCounted (detach_turn s o).state counts
detach_counted s None counts c = c
detach_counted s (Some id) counts c = record { sent = c.sent; coming = c.coming }

moment_counted : (s : State) (m : ℤ) (counts : List ℕ → ℕ) → AreCounted s counts → AreCounted (at_moment s m) counts
moment_counted s m counts c = record { sent = c.sent; coming = c.coming }

moment_sessions : (s : State) (m : ℤ) → AreSoundSessions s → AreSoundSessions (at_moment s m)
moment_sessions s m h = record { rise = h.rise; given = h.given; apart = h.apart; order = h.order; domain = h.domain; unsent = h.unsent }

-- ---- drains

-- what is sent under a handle by these responses under one
abbrev sent_by : List ℕ → List Response → List ℕ → List Response
sent_by handle responses other = if bytes_eq handle other then responses else []

abbrev counted_under : List ℕ → List Response → (List ℕ → ℕ) → List ℕ → ℕ
counted_under handle responses counts other = counts other + length (sent_by handle responses other)

-- the responses are counted, and their numbers go on
record Counted (t : State) (handle : List ℕ) (responses : List Response) (counts : List ℕ → ℕ) : Type 0 where
  kept : AreCounted t (counted_under handle responses counts)
  numbers : (other : List ℕ) → AreNumbered (counts other) (sent_by handle responses other)

module _ (s : State) (k : ℕ) (x : Session) (map : View) (counts : List ℕ → ℕ) (h : AreSoundSessions s) (c : AreCounted s counts) (found : session_of s.sessions k ≡ Some x) where
  abbrev responses : List Response
  responses = responses_for x.handle x.seq x.sent map

  abbrev drained : Session
  drained = (session_at x map responses).session

  abbrev counts' : List ℕ → ℕ
  counts' = counted_under x.handle responses counts

  own_count : counts' x.handle ≡ drained.seq
  own_count =
      let same : bytes_eq x.handle x.handle ≡ true = bytes_eq-from x.handle x.handle refl in
      rw same (ap (λ (n : ℕ). n + length responses) (c.sent k x found))

  other_count : (handle : List ℕ) → (x.handle ≡ handle → ⊥) → counts' handle ≡ counts handle
  other_count handle other = elim (cases_Bool (bytes_eq x.handle handle)) [
    | inl same ↦ absurd (other (bytes_eq-true x.handle handle same))
    | inr differ ↦ rw differ (omega arith)
  ]

  numbers_go_on : (other : List ℕ) → AreNumbered (counts other) (sent_by x.handle responses other)
  numbers_go_on other = elim (cases_Bool (bytes_eq x.handle other)) [
    | inl same ↦
        let is : x.handle ≡ other = bytes_eq-true x.handle other same in
        let last : x.seq ≡ counts other = sym (c.sent k x found) ∙ ap counts is in
        rw same (subst (λ (n : ℕ). AreNumbered n responses) last (numbered_law x.handle x.seq x.sent map))
    | inr differ ↦ rw differ tt
  ]

  drained_counted : Counted (drained_state s (session_at x map responses)) x.handle responses counts
  drained_counted = record {
    kept = record {
      sent = λ j y f. elim (session_put s.sessions drained j y f) [
        | inl new ↦ subst (λ (z : Session). counts' z.handle ≡ z.seq) new.0 own_count
        | inr old ↦
            let other : x.handle ≡ y.handle → ⊥ = λ e.
            let same : k ≡ j = h.apart k j x y found old.0 e in
            both_ways (x.id == j) old.1 (eq-eqb x.id j (session_id s.sessions k x found ∙ same)) in
            other_count y.handle other ∙ c.sent j y old.0
      ];
      coming = λ n words above small.
          other_count (session_handle n words) (λ e. not_given s.next_session n words x.handle (h.given k x found) above small e)
          ∙ c.coming n words above small;
    };
    numbers = numbers_go_on;
  }

-- nothing is sent
abbrev no_responses : List Response
no_responses = []

count_stays : (b : Bool) (n : ℕ) → n + length (if b then no_responses else []) ≡ n
count_stays true n = omega arith
count_stays false n = omega arith

none_numbered : (b : Bool) (n : ℕ) → AreNumbered n (if b then [] else [])
none_numbered true n = tt
none_numbered false n = tt

quiet_counted : (s : State) (handle : List ℕ) (counts : List ℕ → ℕ) → AreCounted s counts → Counted s handle [] counts
quiet_counted s handle counts c = record {
  kept = same_counted s counts (counted_under handle [] counts) (λ other. count_stays (bytes_eq handle other) (counts other)) c;
  numbers = λ other. none_numbered (bytes_eq handle other) (counts other);
}

session_counted : (s : State) (mk : MachineKey) (handle : List ℕ) (d : DrainDecision) (counts : List ℕ → ℕ) → AreSoundSessions s → AreCounted s counts → Drains s mk handle d
    → Counted (drained_state s d) handle d.responses counts
session_counted s mk handle d counts h c x =
    let map = fresh_for s x.machine in
    let rs = responses_for x.session.handle x.session.seq x.session.sent map in
    let made = session_at x.session map rs in
    let here : Counted (drained_state s made) x.session.handle rs counts = drained_counted s x.machine.id x.session map counts h c x.found in
    let there : Counted (drained_state s made) handle rs counts = subst (λ (t : List ℕ). Counted (drained_state s made) t rs counts) x.under here in
    subst (λ (e : DrainDecision). Counted (drained_state s e) handle e.responses counts) x.is there

turn_counted : (s : State) (mk : MachineKey) (handle : List ℕ) (o : Option DrainDecision) (counts : List ℕ → ℕ) → AreSoundSessions s → AreCounted s counts → drain s mk handle ≡ o
    → (reply : Reply) → reply ≡ (drain_turn s o).reply → Counted (drain_turn s o).state handle (frames_in reply) counts
turn_counted s mk handle None counts h c is reply e =
    subst (λ (r : Reply). Counted s handle (frames_in r) counts) (sym e) (quiet_counted s handle counts c)
turn_counted s mk handle (Some d) counts h c is reply e =
    subst (λ (r : Reply). Counted (drained_state s d) handle (frames_in r) counts) (sym e) (session_counted s mk handle d counts h c (drains s mk handle d is))

drain_counted : (s : State) (mk : MachineKey) (handle : List ℕ) (m : ℤ) (before after : ℕ) (reply : Reply) (counts : List ℕ → ℕ) → AreSoundSessions s → AreCounted s counts
    → IsReply s (event.Drain mk handle m) before after reply → Counted (state_after s (event.Drain mk handle m) reply) handle (frames_in reply) counts
drain_counted s mk handle m before after reply counts h c is = go reply is
  where
    here : (r : Reply) → r ≡ (step s (event.Drain mk handle m)).reply → Counted (step s (event.Drain mk handle m)).state handle (frames_in r) counts
    here r e = turn_counted (at_moment s m) mk handle (drain (at_moment s m) mk handle) counts (moment_sessions s m h) (moment_counted s m counts c) refl r e

    go : (r : Reply) → IsReply s (event.Drain mk handle m) before after r → Counted (state_after s (event.Drain mk handle m) r) handle (frames_in r) counts
    go (Done answer) e = here (Done answer) e
    go (Attached name seq resumed may_wait) e = here (Attached name seq resumed may_wait) e
    go (Frames responses) e = here (Frames responses) e
    go Ended e = here Ended e
    go Detached e = here Detached e
    go (Refused refusal) e = here (Refused refusal) e
    go (Lost loss) e = quiet_counted (at_moment s m) handle counts (moment_counted s m counts c)

-- ---- histories

abbrev counts_after : Event → Reply → (List ℕ → ℕ) → List ℕ → ℕ
counts_after e reply counts handle = counts handle + length (sent_under handle e (frames_in reply))

-- an event that sends nothing
silent_counted : (s : State) (e : Event) (reply : Reply) (counts : List ℕ → ℕ) → ((handle : List ℕ) → counts_after e reply counts handle ≡ counts handle)
    → AreCounted (step s e).state counts → AreCounted s counts → AreCounted (state_after s e reply) (counts_after e reply counts)
silent_counted s e reply counts same stepped c =
    same_counted (state_after s e reply) counts (counts_after e reply counts) same
    (after_any (λ (t : State). AreCounted t counts) s e reply stepped (moment_counted s (moment_of e) counts c))

pub event_counted : (s : State) (e : Event) (before after : ℕ) (reply : Reply) (counts : List ℕ → ℕ) → AreSoundSessions s → AreCounted s counts → IsReply s e before after reply
    → AreCounted (state_after s e reply) (counts_after e reply counts) × ((handle : List ℕ) → AreNumbered (counts handle) (sent_under handle e (frames_in reply)))
event_counted s (event.Ask x m words) before after reply counts h c is = (
  silent_counted s (event.Ask x m words) reply counts (λ handle. omega arith)
      (outcome_counted (at_moment s m) (decision (at_moment s m) x words) counts (moment_counted s m counts c)) c,
  λ handle. tt,
)
event_counted s (event.Attach mk node handle seq m words) before after reply counts h c is = (
  silent_counted s (event.Attach mk node handle seq m words) reply counts (λ other. omega arith)
      (attach_counted (at_moment s m) (attach (at_moment s m) mk node handle seq words) counts (λ d e. attach_either (at_moment s m) mk node handle seq words d e) (moment_counted s m counts c)) c,
  λ other. tt,
)
event_counted s (event.Drain mk handle m) before after reply counts h c is =
    let drained = drain_counted s mk handle m before after reply counts h c is in
    (drained.kept, drained.numbers)
event_counted s (event.Detach mk handle m) before after reply counts h c is = (
  silent_counted s (event.Detach mk handle m) reply counts (λ other. omega arith)
      (detach_counted (at_moment s m) (detach (at_moment s m) mk handle) counts (moment_counted s m counts c)) c,
  λ other. tt,
)

pub numbers_joined : (n : ℕ) (xs ys : List Response) → AreNumbered n xs → AreNumbered (n + length xs) ys → AreNumbered n (xs ++ ys)
numbers_joined n [] ys p q =
    let same : n + length no_responses ≡ n = omega arith in
    subst (λ (k : ℕ). AreNumbered k ys) same q
numbers_joined n (x ∷ xs) ys p q =
    let same : n + length (x ∷ xs) ≡ (n + 1) + length xs = omega arith in
    (p.0, numbers_joined (n + 1) xs ys p.1 (subst (λ (k : ℕ). AreNumbered k ys) same q))

legal_numbered : (s : State) (count : ℕ) (es : List Entry) (maps : List ℕ → Option View) (counts : List ℕ → ℕ) → AreRuled s → AreKept s maps → AreCounted s counts → Legal s count es
    → (handle : List ℕ) → AreNumbered (counts handle) (sent_in handle es)
legal_numbered s count [] maps counts r h c legal handle = tt
legal_numbered s count (e ∷ es) maps counts r h c legal handle =
    let one = event_followed s e.event count e.after e.reply maps r.rows (force_sound s.rows s.policy r.policy) h legal.2 in
    let two = event_counted s e.event count e.after e.reply counts h.sessions c legal.2 in
    numbers_joined (counts handle) (frames_to handle e) (sent_in handle es) (two.1 handle)
    (legal_numbered (state_after s e.event e.reply) e.after es (views_after maps e) (counts_after e.event e.reply counts)
    (after_ruled s e.event e.reply r legal.1) one.0 two.0 legal.4 handle)

-- ---- from any state, and from the opening state

-- the last number under a handle; 0 where no session has it
abbrev last_number : List Session → List ℕ → ℕ
last_number sessions handle = option_map_or (λ (x : Session). x.seq) (find (λ (x : Session). bytes_eq x.handle handle) sessions) 0

module _ (s : State) (h : AreSoundSessions s) where
  abbrev with_handle : List ℕ → Option Session
  with_handle handle = find (λ (x : Session). bytes_eq x.handle handle) s.sessions

  number_is : (k : ℕ) (x : Session) (o : Option Session) → session_of s.sessions k ≡ Some x → with_handle x.handle ≡ o → option_map_or (λ (z : Session). z.seq) o 0 ≡ x.seq
  number_is k x None f e =
      let inside = (find_member (λ (r : Session). r.id == k) s.sessions x f).0 in
      absurd (both_ways (bytes_eq x.handle x.handle) (find_none (λ (y : Session). bytes_eq y.handle x.handle) s.sessions e x inside) (bytes_eq-from x.handle x.handle refl))
  number_is k x (Some y) f e =
      let at = find_member (λ (z : Session). bytes_eq z.handle x.handle) s.sessions y e in
      ap (λ (z : Session). z.seq) (one_session s h k x y f at.0 (bytes_eq-true y.handle x.handle at.1))

  none_to_come : (n : ℕ) (words : List ℕ) (o : Option Session) → s.next_session ≤ n → n < 2 ^ 63 → with_handle (session_handle n words) ≡ o → option_map_or (λ (z : Session). z.seq) o 0 ≡ 0
  none_to_come n words None above small e = refl
  none_to_come n words (Some y) above small e =
      let at = find_member (λ (z : Session). bytes_eq z.handle (session_handle n words)) s.sessions y e in
      let there : session_of s.sessions y.id ≡ Some y = row_at_is (λ (r : Session). r.id) s.sessions y h.rise at.0 in
      absurd (not_given s.next_session n words y.handle (h.given y.id y there) above small (bytes_eq-true y.handle (session_handle n words) at.1))

  numbers_counted : AreCounted s (last_number s.sessions)
  numbers_counted = record {
    sent = λ k x f. number_is k x (with_handle x.handle) f refl;
    coming = λ n words above small. none_to_come n words (with_handle (session_handle n words)) above small refl;
  }

pub session_numbered : (s : State) (count : ℕ) (es : List Entry) (k : ℕ) (x : Session) → AreRuled s → AreSoundSessions s → Legal s count es → session_of s.sessions k ≡ Some x
    → AreNumbered x.seq (sent_in x.handle es)
session_numbered s count es k x r h legal f =
    let counts = last_number s.sessions in
    let c = numbers_counted s h in
    subst (λ (n : ℕ). AreNumbered n (sent_in x.handle es)) (c.sent k x f)
    (legal_numbered s count es (sent_to s.sessions) counts r (record { sessions = h; held = sent_held s h }) c legal x.handle)

pub opening_numbered : (settings : SettingsFields) (rows : Rows) (moment : ℤ) (count : ℕ) (es : List Entry) (handle : List ℕ) → AreSettings settings → damage rows ≡ None
    → Legal (opening settings rows moment) count es → AreNumbered 0 (sent_in handle es)
opening_numbered settings rows moment count es handle hold sound legal =
    legal_numbered (opening settings rows moment) count es (λ other. None) (λ other. 0) (record { settings = hold; rows = sound; policy = refl })
    (opening_kept settings rows moment) none_counted legal handle
  where
    no_session : (x : Session) → None ≡ Some x → ⊥
    no_session x f = absurd (cc)

    none_counted : AreCounted (opening settings rows moment) (λ other. 0)
    none_counted = record { sent = λ k x f. absurd (no_session x f); coming = λ n words above small. refl }
