-- What drains are replied in a legal history.
use Rattle.std.proofs.Common.{◌≡◌, ℕ, ℤ, ◌≤ℤ◌, ◌+◌, ◌==◌, int_lt, Bool, true, false, not, ◌||◌, List, [], ◌∷◌, Option, Some, None, refl, sym, ap, ◌∙◌, subst, arith, if◌then◌else◌}
use Rattle.std.specs.Prelude.{Contains, IfSome, filter}
use Rattle.std.specs.List.{AllByRecursion}
use Rattle.std.proofs.lemmas.Bool.{and_parts}
use Rattle.tail_base.specs.declared.key.MachineKey.{MachineKey}
use Rattle.net_addr.specs.Moments.{IsMoment, first_moment, later_of}
use Rattle.tailcfg.specs.declared.node_row.NodeRow.{NodeRow}
use Rattle.tailcfg.specs.declared.patch.Patch.{Patch}
use Rattle.tailcfg.specs.declared.response.Response.{Response}
use Rattle.settings.specs.Settings.{AreSettings}
use Rattle.net_rows.specs.Damage.{damage}
use Rattle.net_rows.specs.Sound.{AreSound}
use Rattle.net_rows.specs.declared.machine.Machine.{Machine}
use Rattle.net_rows.specs.declared.rows.Rows.{Rows}
use Rattle.net_rows.proofs.Members.{list_any_found}
use Rattle.net_rows.proofs.RowAt.{row_at_is}
use Rattle.net_rows.proofs.Sounds.{no_damage, sound_of}
use Rattle.policy_sites.specs.Sites.{is_among, is_listed}
use Rattle.peer_view.specs.Seen.{sees, visible}
use Rattle.peer_view.specs.Shown.{shown}
use Rattle.peer_view.proofs.ListLemmas.{filter_member, filtered_passes, mapped_member}
use Rattle.fresh_maps.specs.declared.view.View.{View}
use Rattle.map_delta.specs.Delta.{change, is_empty, is_sent_whole, new_unless, patches_between, responses_for, responses_of, then_patch}
use Rattle.map_delta.specs.Puts.{node_id}
use Rattle.net_rows.specs.Shelf.{row_at}
use Rattle.desk_state.specs.State.{State, at_moment, is_ahead, is_live, live_ids, presence_of, stays_with}
use Rattle.machine_asks.specs.Drain.{drain}
use Rattle.machine_asks.specs.OneMap.{IsLiveRow, fresh_for, node_in, world_of}
use Rattle.machine_asks.specs.declared.draining.DrainDecision.{DrainDecision}
use Rattle.tailnet_desk.specs.History.{IsReply, Legal, state_after}
use Rattle.tailnet_desk.specs.Step.{drain_turn}
use Rattle.tailnet_desk.specs.declared.entry.Entry.{Entry}
use Rattle.tailnet_desk.specs.declared.entry.Event.{Event}
use Rattle.tailnet_desk.specs.declared.entry.Event.TheVariants as event
use Rattle.tailnet_desk.specs.declared.reply.Reply.{Reply}
use Rattle.tailnet_desk.specs.declared.reply.Reply.TheVariants.{Attached, Detached, Done, Ended, Frames, Lost, Refused}
use Rattle.tailnet_desk.proofs.SessionSteps.{drains}
use Rattle.tailnet_desk.proofs.SoundHistories.{after_better, after_settings}
use Rattle.wire_laws.specs.Dns.{DoSuffixesRise}
use Rattle.wire_laws.specs.Nodes.{EndsLater, IsLaterMoment}
use Rattle.byte_laws.specs.Orderly.{AreOrderly, IsOrderly, IsReplyOrderly}
use Rattle.byte_laws.proofs.Lists.{all_filter, each_of}
use Rattle.tailnet_laws.specs.Followed.{frames_in}

-- ---- nodes

not_first : (now end : ℤ) → first_moment ≤ℤ now → int_lt now end ≡ true → end ≡ first_moment → ⊥
not_first now end begun ahead is = grind arith

-- what ends later than a moment doesn't end at the first one
ends_later : (now : ℤ) (expiry : Option ℤ) → first_moment ≤ℤ now → is_ahead now expiry ≡ true → IfSome expiry IsLaterMoment
ends_later now None begun ahead = tt
ends_later now (Some end) begun ahead = not_first now end begun ahead

later_begun : (a b : ℤ) → first_moment ≤ℤ b → first_moment ≤ℤ later_of a b
later_begun a b begun = grind arith

live_ends : (s : State) (m : Machine) → first_moment ≤ℤ s.now → is_live s m ≡ true → IfSome m.expiry IsLaterMoment
live_ends s m begun live =
    ends_later s.now m.expiry begun (and_parts (is_ahead s.now m.expiry) (not m.ephemeral || stays_with s.settings s.now (presence_of s.presence m.id)) live).0

-- a listed id is a live machine's
live_listed : (s : State) (n : ℕ) → is_listed (live_ids s) n ≡ true → (a : Machine) × Contains s.rows.machines a × (is_live s a ≡ true) × (n ≡ a.id)
live_listed s n h =
    let machines = s.rows.machines in
    let found = list_any_found (λ (other : ℕ). other == n) (live_ids s) h in
    let from = mapped_member (λ (m : Machine). m.id) (filter (is_live s) machines) found.0 found.1 in
    let same : (found.0 == n) ≡ true = found.2 in
    let is : n ≡ found.0 = grind arith in
    (from.0, filter_member (is_live s) machines from.0 from.1, filtered_passes (is_live s) machines from.0 from.1, is ∙ sym from.2)

-- rows of one id are one row
same_row : (t : Rows) (a b : Machine) → AreSound t → Contains t.machines a → Contains t.machines b → a.id ≡ b.id → a ≡ b
same_row t a b sound ina inb e =
    let id = λ (x : Machine). x.id in
    let found : row_at id t.machines a.id ≡ Some a = row_at_is id t.machines a sound.machines.ascend ina in
    let own : row_at id t.machines b.id ≡ Some b = row_at_is id t.machines b sound.machines.ascend inb in
    let both : Some a ≡ Some b = sym found ∙ ap (λ (n : ℕ). row_at id t.machines n) e ∙ own in
    cc

peer_ends : (s : State) (m : Machine) (row : NodeRow) → AreSound s.rows → first_moment ≤ℤ s.now → Contains (fresh_for s m).peers row → EndsLater row
peer_ends s m row sound begun h =
    let w = world_of s in
    let v = node_in s m in
    let ids = live_ids s in
    let seen = mapped_member (shown w v (visible w v)) (visible w v) row h in
    let node : Contains w.nodes seen.0 = filter_member (sees w v) w.nodes seen.0 seen.1 in
    let from = mapped_member (node_in s) (filter (is_among ids) s.rows.machines) seen.0 node in
    let inside : Contains s.rows.machines from.0 = filter_member (is_among ids) s.rows.machines from.0 from.1 in
    let live = live_listed s from.0.id (filtered_passes (is_among ids) s.rows.machines from.0 from.1) in
    let same : live.0 ≡ from.0 = same_row s.rows live.0 from.0 sound live.1 inside (sym live.3) in
    let is : shown w v (visible w v) (node_in s from.0) ≡ row = ap (shown w v (visible w v)) from.2 ∙ seen.2 in
    subst EndsLater is (live_ends s from.0 begun (subst (λ (a : Machine). is_live s a ≡ true) same live.2))

-- ---- maps and responses

-- no node that the map shows ends at the first moment, and the suffixes of routes rise
record IsViewOrderly (v : View) : Type 0 where
  node : EndsLater v.node
  peers : AllByRecursion EndsLater v.peers
  dns : DoSuffixesRise v.dns

fresh_orderly : (s : State) (m : Machine) → AreSettings s.settings → AreSound s.rows → first_moment ≤ℤ s.now → IsLiveRow s m → IsViewOrderly (fresh_for s m)
fresh_orderly s m hold sound begun live = record {
  node = live_ends s m begun live.live;
  peers = each_of EndsLater (fresh_for s m).peers (λ row inside. peer_ends s m row sound begun inside);
  dns = hold.dns.suffixes;
}

unless_same : {T : Type 0} (P : T → Type 0) (same : Bool) (x : T) → P x → IfSome (new_unless same x) P
unless_same P true x p = tt
unless_same P false x p = p

change_orderly : (old v : View) (seq : ℕ) → IsViewOrderly v → IsOrderly (change old v seq)
change_orderly old v seq h = record {
  node = unless_same EndsLater _ v.node h.node;
  peers = tt;
  changed = all_filter EndsLater (λ (b : NodeRow). is_sent_whole (row_at node_id old.peers b.id) b) v.peers h.peers;
  dns = unless_same DoSuffixesRise _ v.dns h.dns;
}

patches_orderly : (ps : List Patch) (seq : ℕ) → AreOrderly (then_patch ps seq)
patches_orderly [] seq = tt
patches_orderly (p ∷ ps) seq = (record { node = tt; peers = tt; changed = tt; dns = tt }, tt)

either_orderly : (b : Bool) (rs ss : List Response) → AreOrderly rs → AreOrderly ss → AreOrderly (if b then rs else ss)
either_orderly true rs ss h k = h
either_orderly false rs ss h k = k

changes_orderly : (c : Response) (ps : List Patch) (seq : ℕ) → IsOrderly c → AreOrderly (responses_of c ps seq)
changes_orderly c ps seq h =
    either_orderly (is_empty c) (then_patch ps (seq + 1)) (c ∷ then_patch ps (seq + 2)) (patches_orderly ps (seq + 1)) (h, patches_orderly ps (seq + 2))

responses_orderly : (handle : List ℕ) (seq : ℕ) (sent : Option View) (v : View) → IsViewOrderly v → AreOrderly (responses_for handle seq sent v)
responses_orderly handle seq None v h = (record { node = h.node; peers = h.peers; changed = tt; dns = h.dns }, tt)
responses_orderly handle seq (Some old) v h = changes_orderly (change old v (seq + 1)) (patches_between old.peers v.peers) seq (change_orderly old v (seq + 1) h)

-- ---- drains

drain_orderly : (s : State) (mk : MachineKey) (handle : List ℕ) (d : DrainDecision) → AreSettings s.settings → AreSound s.rows → first_moment ≤ℤ s.now → drain s mk handle ≡ Some d
    → AreOrderly d.responses
drain_orderly s mk handle d hold sound begun is =
    let x = drains s mk handle d is in
    subst (λ (e : DrainDecision). AreOrderly e.responses) x.is
    (responses_orderly x.session.handle x.session.seq x.session.sent (fresh_for s x.machine) (fresh_orderly s x.machine hold sound begun x.live))

turn_orderly : (s : State) (mk : MachineKey) (handle : List ℕ) (o : Option DrainDecision) → AreSettings s.settings → AreSound s.rows → first_moment ≤ℤ s.now → drain s mk handle ≡ o
    → AreOrderly (frames_in (drain_turn s o).reply)
turn_orderly s mk handle None hold sound begun is = tt
turn_orderly s mk handle (Some d) hold sound begun is = drain_orderly s mk handle d hold sound begun is

reply_orderly : (s : State) (mk : MachineKey) (handle : List ℕ) (m : ℤ) (before after : ℕ) (reply : Reply) → AreSettings s.settings → AreSound s.rows → IsMoment m
    → IsReply s (event.Drain mk handle m) before after reply → AreOrderly (frames_in reply)
reply_orderly s mk handle m before after (Done answer) hold sound begun is = tt
reply_orderly s mk handle m before after (Attached other seq resumed may_wait) hold sound begun is = tt
reply_orderly s mk handle m before after (Frames responses) hold sound begun is =
    let t = at_moment s m in
    subst (λ (r : Reply). AreOrderly (frames_in r)) (sym is) (turn_orderly t mk handle (drain t mk handle) hold sound (later_begun s.now m begun.0) refl)
reply_orderly s mk handle m before after Ended hold sound begun is = tt
reply_orderly s mk handle m before after Detached hold sound begun is = tt
reply_orderly s mk handle m before after (Refused refusal) hold sound begun is = tt
reply_orderly s mk handle m before after (Lost loss) hold sound begun is = tt

event_orderly : (s : State) (e : Event) (before after : ℕ) (reply : Reply) → AreSettings s.settings → AreSound s.rows → IsReply s e before after reply → IsReplyOrderly e reply
event_orderly s (event.Ask x m words) before after reply hold sound is = tt
event_orderly s (event.Attach mk node handle seq m words) before after reply hold sound is = tt
event_orderly s (event.Drain mk handle m) before after reply hold sound is = λ begun. reply_orderly s mk handle m before after reply hold sound begun is
event_orderly s (event.Detach mk handle m) before after reply hold sound is = tt

entries_orderly : (s : State) (count : ℕ) (es : List Entry) → AreSettings s.settings → damage s.rows ≡ None → Legal s count es → AllByRecursion (λ (e : Entry). IsReplyOrderly e.event e.reply) es
entries_orderly s count [] hold sound legal = tt
entries_orderly s count (e ∷ es) hold sound legal = (
  event_orderly s e.event count e.after e.reply hold (sound_of s.rows sound) legal.2,
  entries_orderly (state_after s e.event e.reply) e.after es (subst AreSettings (sym (after_settings s e.event e.reply)) hold)
      (after_better s e.event e.reply hold sound legal.1).0 legal.4,
)

pub legal_orderly : (s : State) (count : ℕ) (es : List Entry) → AreSettings s.settings → AreSound s.rows → Legal s count es → AllByRecursion (λ (e : Entry). IsReplyOrderly e.event e.reply) es
legal_orderly s count es hold sound legal = entries_orderly s count es hold (no_damage s.rows sound) legal
