-- What maps show are live machines, with prefixes that they serve.
use Rattle.std.proofs.Common.{◌≡◌, ◌∙◌, ◌++◌, ◌&&◌, ℕ, Bool, true, false, List, Some, inl, inr, refl, sym, ap, subst}
use Rattle.std.specs.Prelude.{Contains, filter}
use Rattle.std.proofs.lemmas.Bool.{and_parts}
use Rattle.std.proofs.lemmas.List.Elements.{Contains-append_cases}
use Rattle.tail_base.specs.declared.key.MachineKey.{MachineKey}
use Rattle.net_addr.specs.Bits.{Block}
use Rattle.net_rows.specs.Sound.{AreSound}
use Rattle.net_rows.specs.declared.machine.Machine.{Machine}
use Rattle.net_rows.proofs.Members.{no_member}
use Rattle.policy_rows.specs.Internet.{is_internet}
use Rattle.policy_sites.specs.Exits.{exit_routes}
use Rattle.policy_sites.specs.Serving.{exits_if}
use Rattle.policy_sites.specs.Sites.{is_among}
use Rattle.tailcfg.specs.declared.node_row.NodeRow.{NodeRow}
use Rattle.peer_view.specs.Nodes.{own_addresses}
use Rattle.peer_view.specs.Seen.{Node, sees, visible}
use Rattle.peer_view.specs.Shown.{granted_into, is_shown, shown, shown_exits, shown_routes}
use Rattle.peer_view.proofs.ListLemmas.{filter_member, filtered_passes, mapped_member}
use Rattle.fresh_maps.specs.declared.view.View.{View}
use Rattle.desk_state.specs.State.{State, is_live, live_ids}
use Rattle.machine_asks.specs.Drain.{drain}
use Rattle.machine_asks.specs.OneMap.{IsLiveRow, fresh_for, node_in, world_of}
use Rattle.machine_asks.specs.declared.answer.MachineAnswer.TheVariants.{Map}
use Rattle.machine_asks.specs.declared.draining.DrainDecision.{DrainDecision}
use Rattle.machine_asks.proofs.Drains.{sent_fresh}
use Rattle.tailnet_desk.specs.Step.{step}
use Rattle.tailnet_desk.specs.declared.entry.Event.{Event}
use Rattle.tailnet_desk.specs.declared.reply.Answer.TheVariants as answer
use Rattle.tailnet_desk.specs.declared.reply.Reply.TheVariants.{Done}
use Rattle.tailnet_laws.specs.LiveRows.{IsServedPrefix, ShowsLive}
use Rattle.tailnet_laws.proofs.LiveMachines.{listed_live, one_row}
use Rattle.tailnet_laws.proofs.Replied.{reply_afresh}

-- exit routes behind a test are there where it passes
exits_found : (b : Bool) (prefix : Block) → Contains (exits_if b) prefix → (b ≡ true) × Contains exit_routes prefix
exits_found true prefix h = (refl, h)
exits_found false prefix h = absurd (no_member prefix h)

-- what the machine itself is shown to serve
own_served : (s : State) (m : Machine) (prefix : Block) → Contains (fresh_for s m).node.allowed prefix → IsServedPrefix s m prefix
own_served s m prefix h =
    let site = (node_in s m).site in
    elim (Contains-append_cases (own_addresses m) (site.approved ++ exits_if site.exit) prefix h) [
      | inl own ↦ inl own
      | inr more ↦ elim (Contains-append_cases site.approved (exits_if site.exit) prefix more) [
        | inl route ↦ inr (inl route)
        | inr exit ↦ inr (inr (exits_found site.exit prefix exit))
      ]
    ]

-- what a viewer is shown of it
shown_served : (s : State) (v : Node) (m : Machine) (prefix : Block) → Contains (shown (world_of s) v (visible (world_of s) v) (node_in s m)).allowed prefix → IsServedPrefix s m prefix
shown_served s v m prefix h =
    let w = world_of s in
    let p = node_in s m in
    let routes = shown_routes w v (visible w v) p in
    let exits = shown_exits w v p in
    elim (Contains-append_cases (own_addresses m) (routes ++ exits) prefix h) [
      | inl own ↦ inl own
      | inr more ↦ elim (Contains-append_cases routes exits prefix more) [
        | inl route ↦ inr (inl (filter_member (is_shown w v (visible w v) p) p.site.approved prefix route))
        | inr exit ↦
            let there = exits_found (p.site.exit && granted_into w v is_internet) prefix exit in
            inr (inr ((and_parts p.site.exit (granted_into w v is_internet) there.0).0, there.1))
      ]
    ]

pub own_live : (s : State) (m : Machine) → IsLiveRow s m → ShowsLive s (fresh_for s m).node
own_live s m h = record { machine = m; inside = h.inside; live = h.live; id = refl; key = refl; prefixes = own_served s m }

pub peer_shown : (s : State) (m : Machine) (row : NodeRow) → AreSound s.rows → Contains (fresh_for s m).peers row → ShowsLive s row
peer_shown s m row sound h =
    let w = world_of s in
    let v = node_in s m in
    let ids = live_ids s in
    let seen = mapped_member (shown w v (visible w v)) (visible w v) row h in
    let node : Contains w.nodes seen.0 = filter_member (sees w v) w.nodes seen.0 seen.1 in
    let from = mapped_member (node_in s) (filter (is_among ids) s.rows.machines) seen.0 node in
    let inside : Contains s.rows.machines from.0 = filter_member (is_among ids) s.rows.machines from.0 from.1 in
    let live = listed_live s from.0.id (filtered_passes (is_among ids) s.rows.machines from.0 from.1) in
    let same : live.0 ≡ from.0 = one_row s.rows live.0 from.0 sound live.1 inside (sym live.3) in
    let is : shown w v (visible w v) (node_in s from.0) ≡ row = ap (shown w v (visible w v)) from.2 ∙ seen.2 in
    subst (ShowsLive s) is (record {
      machine = from.0;
      inside = inside;
      live = subst (λ (a : Machine). is_live s a ≡ true) same live.2;
      id = refl;
      key = refl;
      prefixes = shown_served s v from.0;
    })

-- what a drain brings a client to
pub drained_shown : (s : State) (mk : MachineKey) (handle : List ℕ) (d : DrainDecision) (map : View) (row : NodeRow) → AreSound s.rows → drain s mk handle ≡ Some d → d.session.sent ≡ Some map
    → Contains map.peers row → ShowsLive s row
drained_shown s mk handle d map row sound is sent inside =
    let from = sent_fresh s mk handle d is in
    let both : Some map ≡ Some (fresh_for s from.0) = sym sent ∙ from.2 in
    let same : map ≡ fresh_for s from.0 = cc in
    peer_shown s from.0 row sound (subst (λ (v : View). Contains v.peers row) same inside)

-- what a step replies
pub replied_shown : (s : State) (e : Event) (map : View) (row : NodeRow) → AreSound (step s e).state.rows → (step s e).reply ≡ Done (answer.Machine (Map map))
    → Contains map.peers row → ShowsLive (step s e).state row
replied_shown s e map row sound is inside =
    let from = reply_afresh s e map is in
    peer_shown (step s e).state from.0 row sound (subst (λ (v : View). Contains v.peers row) from.1 inside)
