-- Clients have the maps computed afresh after each drain that sends something.
use Rattle.std.proofs.Common.{◌≡◌, ℕ, ℤ, Bool, true, false, List, [], ◌∷◌, Option, Some, None, Result, Ok, Err, refl, sym, subst, if◌then◌else◌}
use Rattle.std.specs.Prelude.{filter}
use Rattle.std.specs.Result.{result_ok}
use Rattle.std.specs.Str.{bytes_eq}
use Rattle.tail_base.specs.declared.key.MachineKey.{MachineKey}
use Rattle.net_rows.specs.Damage.{damage}
use Rattle.net_rows.specs.declared.machine.Machine.{Machine}
use Rattle.net_rows.specs.declared.rows.Rows.{Rows}
use Rattle.policy_rows.specs.declared.fault.PolicyFault.{PolicyFault}
use Rattle.policy_rows.specs.declared.policy.Policy.{Policy}
use Rattle.policy_doc.specs.Document.{policy_of_text}
use Rattle.policy_sites.specs.Grants.{rules_of}
use Rattle.policy_sites.specs.Reach.{AreSoundRules}
use Rattle.settings.specs.Settings.{AreSettings}
use Rattle.settings.specs.declared.fields.SettingsFields.{SettingsFields}
use Rattle.fresh_maps.specs.Granted.{MeetsPolicy}
use Rattle.fresh_maps.specs.declared.view.View.{View}
use Rattle.fresh_maps.proofs.FilterLemmas.{map_admits}
use Rattle.map_delta.specs.Delta.{responses_for}
use Rattle.map_delta.specs.Fold.{fold_all}
use Rattle.policy_asks.specs.Kept.{policy_of_kept}
use Rattle.desk_state.specs.State.{State, at_moment, live_ids}
use Rattle.desk_state.specs.declared.session.Session.{Session}
use Rattle.machine_asks.specs.Attach.{attach}
use Rattle.machine_asks.specs.Detach.{detach}
use Rattle.machine_asks.specs.Drain.{drain, drained_state, session_at}
use Rattle.machine_asks.specs.OneMap.{IsLiveRow, fresh_for, node_in, online_ids, world_of}
use Rattle.machine_asks.specs.declared.draining.DrainDecision.{DrainDecision}
use Rattle.tailnet_desk.specs.Asks.{IsShortEvent}
use Rattle.tailnet_desk.specs.History.{IsReply, Legal, replay, state_after}
use Rattle.tailnet_desk.specs.Opening.{opening}
use Rattle.tailnet_desk.specs.Seated.{IsInForce}
use Rattle.tailnet_desk.specs.Step.{decision, drain_turn, moment_of, step}
use Rattle.tailnet_desk.specs.declared.entry.Entry.{Entry}
use Rattle.tailnet_desk.specs.declared.entry.Event.{Event}
use Rattle.tailnet_desk.specs.declared.entry.Event.TheVariants as event
use Rattle.tailnet_desk.specs.declared.reply.Reply.{Reply}
use Rattle.tailnet_desk.specs.declared.reply.Reply.TheVariants.{Attached, Detached, Done, Ended, Frames, Lost, Refused}
use Rattle.tailnet_desk.proofs.SoundHistories.{after_any, after_better, after_in_force, after_settings}
use Rattle.tailnet_laws.specs.Followed.{AreFollowed, IsFreshAt, IsFreshIf, frames_in, sent_under, views_after, views_at}
use Rattle.tailnet_desk.proofs.Attaches.{attach_either}
use Rattle.tailnet_desk.proofs.SessionRules.{AreKept, drained_kept, drained_map, folded_under, same_kept}
use Rattle.tailnet_desk.proofs.SessionSteps.{Drains, attach_kept, detach_kept, drains, fresh_order, live_inside, moment_kept, outcome_kept}
use Rattle.tailnet_laws.proofs.SoundRules.{open_sound, policy_rules}

-- ---- the policy in force

read_sound : (text : List ℕ) (r : Result Policy PolicyFault) → policy_of_text text ≡ r → AreSoundRules (rules_of (result_ok r))
read_sound text (Ok p) e = policy_rules text p e
read_sound text (Err fault) e = open_sound

kept_sound : (kept : Option (List ℕ)) → AreSoundRules (rules_of (policy_of_kept kept))
kept_sound None = open_sound
kept_sound (Some text) = read_sound text (policy_of_text text) refl

-- its rules are sound
pub force_sound : (rows : Rows) (policy : Option Policy) → IsInForce rows policy → AreSoundRules (rules_of policy)
force_sound rows policy e = subst (λ (p : Option Policy). AreSoundRules (rules_of p)) (sym e) (kept_sound rows.policy)

-- ---- fresh maps

fresh_filter : (s : State) (m : Machine) → damage s.rows ≡ None → AreSoundRules (rules_of s.policy) → IsLiveRow s m → MeetsPolicy (world_of s) (node_in s m) (fresh_for s m).filter
fresh_filter s m kept sound h = map_admits s.settings s.policy s.rows (live_ids s) (online_ids s.presence) (node_in s m) kept sound (live_inside s m h)

-- after a drain that sends something its client has the map computed afresh
pub record Followed (s : State) (mk : MachineKey) (handle : List ℕ) (reply : Reply) (maps : List ℕ → Option View) : Type 0 where
  pub kept : AreKept s maps
  pub fresh : IsFreshIf reply s mk (maps handle)

responses_followed : (s : State) (mk : MachineKey) (handle : List ℕ) (d : DrainDecision) (maps : List ℕ → Option View) → damage s.rows ≡ None → AreSoundRules (rules_of s.policy) → AreKept s maps
    → Drains s mk handle d → Followed (drained_state s d) mk handle (Frames d.responses) (folded_under handle d.responses maps)
responses_followed s mk handle d maps rows rules h x =
    let map = fresh_for s x.machine in
    let order = fresh_order s x.machine rows x.live in
    let rs = responses_for x.session.handle x.session.seq x.session.sent map in
    let made = session_at x.session map rs in
    let here : Followed (drained_state s made) mk x.session.handle (Frames rs) (folded_under x.session.handle rs maps) = record {
      kept = drained_kept s x.machine.id x.session map maps h x.found order refl;
      fresh = record {
        machine = x.machine;
        row = x.row;
        live = x.live.live;
        map = drained_map s x.machine.id x.session map maps h x.found order refl;
        filter = fresh_filter s x.machine rows rules x.live;
      };
    } in
    let there : Followed (drained_state s made) mk handle (Frames rs) (folded_under handle rs maps) =
    subst (λ (t : List ℕ). Followed (drained_state s made) mk t (Frames rs) (folded_under t rs maps)) x.under here in
    subst (λ (e : DrainDecision). Followed (drained_state s e) mk handle (Frames e.responses) (folded_under handle e.responses maps)) x.is there

nothing_sent : (b : Bool) (view : Option View) → fold_all view (if b then [] else []) ≡ view
nothing_sent true view = refl
nothing_sent false view = refl

-- the same where nothing is sent
quiet_kept : (s : State) (handle : List ℕ) (maps : List ℕ → Option View) → AreKept s maps → AreKept s (folded_under handle [] maps)
quiet_kept s handle maps h = same_kept s maps (folded_under handle [] maps) (λ other. nothing_sent (bytes_eq handle other) (maps other)) h

turn_followed : (s : State) (mk : MachineKey) (handle : List ℕ) (o : Option DrainDecision) (maps : List ℕ → Option View) → damage s.rows ≡ None → AreSoundRules (rules_of s.policy) → AreKept s maps
    → drain s mk handle ≡ o → (reply : Reply) → reply ≡ (drain_turn s o).reply → Followed (drain_turn s o).state mk handle reply (folded_under handle (frames_in reply) maps)
turn_followed s mk handle None maps rows rules h is reply e =
    subst (λ (r : Reply). Followed s mk handle r (folded_under handle (frames_in r) maps)) (sym e) (record { kept = quiet_kept s handle maps h; fresh = tt })
turn_followed s mk handle (Some d) maps rows rules h is reply e =
    subst (λ (r : Reply). Followed (drained_state s d) mk handle r (folded_under handle (frames_in r) maps)) (sym e)
    (responses_followed s mk handle d maps rows rules h (drains s mk handle d is))

drain_followed : (s : State) (mk : MachineKey) (handle : List ℕ) (m : ℤ) (before after : ℕ) (reply : Reply) (maps : List ℕ → Option View) → damage s.rows ≡ None → AreSoundRules (rules_of s.policy) → AreKept s maps
    → IsReply s (event.Drain mk handle m) before after reply → Followed (state_after s (event.Drain mk handle m) reply) mk handle reply (folded_under handle (frames_in reply) maps)
drain_followed s mk handle m before after reply maps rows rules h is = go reply is
  where
    here : (r : Reply) → r ≡ (step s (event.Drain mk handle m)).reply → Followed (step s (event.Drain mk handle m)).state mk handle r (folded_under handle (frames_in r) maps)
    here r e = turn_followed (at_moment s m) mk handle (drain (at_moment s m) mk handle) maps rows rules (moment_kept s m maps h) refl r e

    go : (r : Reply) → IsReply s (event.Drain mk handle m) before after r → Followed (state_after s (event.Drain mk handle m) r) mk handle r (folded_under handle (frames_in r) maps)
    go (Done answer) e = here (Done answer) e
    go (Attached name seq resumed may_wait) e = here (Attached name seq resumed may_wait) e
    go (Frames responses) e = here (Frames responses) e
    go Ended e = here Ended e
    go Detached e = here Detached e
    go (Refused refusal) e = here (Refused refusal) e
    go (Lost loss) e = record { kept = quiet_kept (at_moment s m) handle maps (moment_kept s m maps h); fresh = tt }

-- ---- histories

abbrev maps_after : Event → Reply → (List ℕ → Option View) → List ℕ → Option View
maps_after e reply maps handle = fold_all (maps handle) (sent_under handle e (frames_in reply))

after_kept : (s : State) (e : Event) (reply : Reply) (maps : List ℕ → Option View) → AreKept (step s e).state maps → AreKept s maps → AreKept (state_after s e reply) maps
after_kept s e reply maps stepped h = after_any (λ (t : State). AreKept t maps) s e reply stepped (moment_kept s (moment_of e) maps h)

pub event_followed : (s : State) (e : Event) (before after : ℕ) (reply : Reply) (maps : List ℕ → Option View) → damage s.rows ≡ None → AreSoundRules (rules_of s.policy) → AreKept s maps → IsReply s e before after reply
    → AreKept (state_after s e reply) (maps_after e reply maps) × IsFreshAt (state_after s e reply) e reply (maps_after e reply maps)
event_followed s (event.Ask x m words) before after reply maps rows rules h is = (
  after_kept s (event.Ask x m words) reply maps (outcome_kept (at_moment s m) (decision (at_moment s m) x words) maps (moment_kept s m maps h)) h,
  tt,
)
event_followed s (event.Attach mk node handle seq m words) before after reply maps rows rules h is = (
  after_kept s (event.Attach mk node handle seq m words) reply maps
      (attach_kept (at_moment s m) (attach (at_moment s m) mk node handle seq words) maps (λ d e. attach_either (at_moment s m) mk node handle seq words d e) (moment_kept s m maps h)) h,
  tt,
)
event_followed s (event.Drain mk handle m) before after reply maps rows rules h is =
    let f = drain_followed s mk handle m before after reply maps rows rules h is in
    (f.kept, f.fresh)
event_followed s (event.Detach mk handle m) before after reply maps rows rules h is = (
  after_kept s (event.Detach mk handle m) reply maps (detach_kept (at_moment s m) (detach (at_moment s m) mk handle) maps (moment_kept s m maps h)) h,
  tt,
)

-- settings, tables and the policy in force keep their rules
pub record AreRuled (s : State) : Type 0 where
  pub settings : AreSettings s.settings
  pub rows : damage s.rows ≡ None
  pub policy : IsInForce s.rows s.policy

pub after_ruled : (s : State) (e : Event) (reply : Reply) → AreRuled s → IsShortEvent e → AreRuled (state_after s e reply)
after_ruled s e reply r short = record {
  settings = subst AreSettings (sym (after_settings s e reply)) r.settings;
  rows = (after_better s e reply r.settings r.rows short).0;
  policy = after_in_force s e reply r.settings r.rows short r.policy;
}

pub legal_followed : (s : State) (count : ℕ) (es : List Entry) (maps : List ℕ → Option View) → AreRuled s → AreKept s maps → Legal s count es → AreFollowed s maps es
legal_followed s count [] maps r h legal = tt
legal_followed s count (e ∷ es) maps r h legal =
    let one = event_followed s e.event count e.after e.reply maps r.rows (force_sound s.rows s.policy r.policy) h legal.2 in
    (one.1, legal_followed (state_after s e.event e.reply) e.after es (views_after maps e) (after_ruled s e.event e.reply r legal.1) one.0 legal.4)

pub legal_kept : (s : State) (count : ℕ) (es : List Entry) (maps : List ℕ → Option View) → AreRuled s → AreKept s maps → Legal s count es → AreKept (replay s es) (views_at maps es)
legal_kept s count [] maps r h legal = h
legal_kept s count (e ∷ es) maps r h legal =
    let one = event_followed s e.event count e.after e.reply maps r.rows (force_sound s.rows s.policy r.policy) h legal.2 in
    legal_kept (state_after s e.event e.reply) e.after es (views_after maps e) (after_ruled s e.event e.reply r legal.1) one.0 legal.4

-- ---- the opening state

pub opening_kept : (settings : SettingsFields) (rows : Rows) (moment : ℤ) → AreKept (opening settings rows moment) (λ handle. None)
opening_kept settings rows moment = record {
  sessions = record {
    rise = tt;
    given = λ k x f. absurd (no_session x f);
    apart = λ j k x y f g e. absurd (no_session x f);
    order = λ k x map f e. absurd (no_session x f);
    domain = λ k x map f e. absurd (no_session x f);
    unsent = λ k x f e. absurd (no_session x f);
  };
  held = record { sent = λ k x f. absurd (no_session x f); coming = λ n words above small. refl };
}
  where
    no_session : (x : Session) → None ≡ Some x → ⊥
    no_session x f = absurd (cc)

pub opening_followed : (settings : SettingsFields) (rows : Rows) (moment : ℤ) (count : ℕ) (es : List Entry) → AreSettings settings → damage rows ≡ None
    → Legal (opening settings rows moment) count es → AreFollowed (opening settings rows moment) (λ handle. None) es
opening_followed settings rows moment count es hold sound legal =
    legal_followed (opening settings rows moment) count es (λ handle. None) (record { settings = hold; rows = sound; policy = refl }) (opening_kept settings rows moment) legal
