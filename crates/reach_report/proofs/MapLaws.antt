-- Peers of fresh maps are those of whom the report says something.
use Rattle.std.proofs.Common.{◌≡◌, ◌==◌, ◌&&◌, ◌||◌, ℕ, Bool, true, false, not, List, refl, sym, ap, subst, ◌∙◌, inl, inr}
use Rattle.std.specs.Prelude.{Contains, Option, Some, None, filter, map}
use Rattle.std.specs.List.{list_any}
use Rattle.std.proofs.lemmas.Bool.{and_from, and_parts, both_ways, eq-eqb, eqb-true, ne_eqb, not-true, not_from_false, or_cases, or_left, or_right}
use Rattle.tail_base.proofs.Bools.{same_tests}
use Rattle.tailcfg.specs.declared.node_row.NodeRow.{NodeRow}
use Rattle.settings.specs.declared.fields.SettingsFields.{SettingsFields}
use Rattle.net_rows.specs.Damage.{damage}
use Rattle.net_rows.specs.Shelf.{IsAscending, row_at}
use Rattle.net_rows.specs.declared.machine.Machine.{Machine}
use Rattle.net_rows.specs.declared.rows.Rows.{Rows}
use Rattle.net_rows.proofs.Members.{list_any_found, list_any_is}
use Rattle.net_rows.proofs.RowAt.{row_at_is}
use Rattle.net_rows.proofs.Sounds.{sound_of}
use Rattle.policy_rows.specs.declared.policy.Policy.{Policy}
use Rattle.policy_sites.specs.ByRule.{site_reaches}
use Rattle.policy_sites.specs.Grants.{groups_of, rules_of}
use Rattle.policy_sites.specs.Reach.{AreSoundRules}
use Rattle.policy_sites.specs.Sites.{is_among, site_of, sites_of}
use Rattle.policy_sites.specs.declared.site.Site.{Site}
use Rattle.peer_view.specs.Seen.{Node, Seen, live_node, seen_of, sees, visible}
use Rattle.peer_view.specs.Shown.{shown}
use Rattle.peer_view.proofs.ListLemmas.{ascending_filter, ascending_map, filter_member, filtered_member, filtered_passes, map_member, mapped_member}
use Rattle.peer_view.proofs.LiveLaws.{live_reach}
use Rattle.peer_view.proofs.SightLaws.{sight_rules}
use Rattle.fresh_maps.specs.Fresh.{fresh, peers_of}
use Rattle.reach_report.specs.Maps.{has_pair, has_peer, joins_pair}
use Rattle.reach_report.specs.Reaches.{IsReach, reach_list}
use Rattle.reach_report.specs.declared.reach.Reach.{Reach}
use Rattle.reach_report.proofs.ReachLaws.{listed_reach, reached_listed}

-- the ends of a reach as live machines
record Ends (nodes : List Node) (lets : Site → Site → Bool) (x : Reach) : Type 0 where
  a : Node
  b : Node
  source : Contains nodes a
  dest : Contains nodes b
  from : a.row.id ≡ x.from
  to : b.row.id ≡ x.to
  differ : x.from ≡ x.to → ⊥
  through : lets a.site b.site ≡ true

module _ (settings : SettingsFields) (policy : Option Policy) (rows : Rows) (live online : List ℕ) (sound_rules : AreSoundRules (rules_of policy)) (sound : damage rows ≡ None) where
  abbrev w : Seen
  w = seen_of settings policy rows live online

  abbrev machines : List Machine
  machines = filter (is_among live) rows.machines

  abbrev node : Machine → Node
  node = live_node policy rows.users online

  abbrev sites : List Site
  sites = sites_of policy rows live

  abbrev lets : Site → Site → Bool
  lets = site_reaches (groups_of policy) (rules_of policy)

  -- ---- nodes and sites

  node_site : (n : Node) → Contains w.nodes n → Contains sites n.site
  node_site n inside =
      let at = mapped_member node machines n inside in
      subst (λ (z : Node). Contains sites z.site) at.2 (map_member (site_of policy rows.users) machines at.0 at.1)

  node_id : (n : Node) → Contains w.nodes n → n.site.id ≡ n.row.id
  node_id n inside =
      let at = mapped_member node machines n inside in
      subst (λ (z : Node). z.site.id ≡ z.row.id) at.2 refl

  site_node : (a : Site) → Contains sites a → (n : Node) × Contains w.nodes n × (n.site ≡ a)
  site_node a inside =
      let at = mapped_member (site_of policy rows.users) machines a inside in
      (node at.0, map_member node machines at.0 at.1, at.2)

  ascend : IsAscending (λ (n : Node). n.row.id) w.nodes
  ascend =
      ascending_map (λ (m : Machine). m.id) node (λ (n : Node). n.row.id) (λ m. refl) machines
      (ascending_filter (λ (m : Machine). m.id) (is_among live) rows.machines (sound_of rows sound).machines.ascend)

  same_node : (n k : Node) → Contains w.nodes n → Contains w.nodes k → n.row.id ≡ k.row.id → n ≡ k
  same_node n k p q e =
      let first : row_at (λ (z : Node). z.row.id) w.nodes n.row.id ≡ Some n = row_at_is (λ (z : Node). z.row.id) w.nodes n ascend p in
      let second : row_at (λ (z : Node). z.row.id) w.nodes k.row.id ≡ Some k = row_at_is (λ (z : Node). z.row.id) w.nodes k ascend q in
      let both : Some n ≡ Some k = sym first ∙ (ap (λ (j : ℕ). row_at (λ (z : Node). z.row.id) w.nodes j) e ∙ second) in
      cc

  -- ---- from maps to the report

  pair_listed : (a b : Node) → Contains w.nodes a → Contains w.nodes b → (a.row.id ≡ b.row.id → ⊥) → lets a.site b.site ≡ true
      → (rule : ℕ) × Contains (reach_list policy sites) (record { from = a.row.id; to = b.row.id; rule = rule })
  pair_listed a b p q differ h =
      let ia = node_id a p in
      let ib = node_id b q in
      let reached = live_reach policy rows live a.site b.site sound_rules sound (node_site a p) (node_site b q) ∙ h in
      let found = reached_listed policy rows live sound_rules sound a.site b.site (node_site a p) (node_site b q) (λ e. differ (sym ia ∙ (e ∙ ib))) reached in
      (found.0, subst (λ (x : Reach). Contains (reach_list policy sites) x) (λ i. record { from = ia i; to = ib i; rule = found.0 }) found.1)

  there : (m n : Node) (id : ℕ) → Contains w.nodes m → Contains w.nodes n → n.row.id ≡ id → (m.row.id ≡ n.row.id → ⊥) → (lets m.site n.site || lets n.site m.site) ≡ true
      → has_pair (reach_list policy sites) m.row.id id ≡ true
  there m n id p q is differ h =
      elim (or_cases (lets m.site n.site) (lets n.site m.site) h) [
        | inl to ↦
            let found = pair_listed m n p q differ to in
            list_any_is (joins_pair m.row.id id) (reach_list policy sites) (record { from = m.row.id; to = n.row.id; rule = found.0 }) found.1
            (or_left (m.row.id == m.row.id && n.row.id == id) (m.row.id == id && n.row.id == m.row.id) (and_from (m.row.id == m.row.id) (n.row.id == id) (eq-eqb m.row.id m.row.id refl) (eq-eqb n.row.id id is)))
        | inr back ↦
            let found = pair_listed n m q p (λ e. differ (sym e)) back in
            list_any_is (joins_pair m.row.id id) (reach_list policy sites) (record { from = n.row.id; to = m.row.id; rule = found.0 }) found.1
            (or_right (n.row.id == m.row.id && m.row.id == id) (n.row.id == id && m.row.id == m.row.id) (and_from (n.row.id == id) (m.row.id == m.row.id) (eq-eqb n.row.id id is) (eq-eqb m.row.id m.row.id refl)))
      ]

  peer_listed : (m : Node) (id : ℕ) → Contains w.nodes m → has_peer (fresh w m) id ≡ true → has_pair (reach_list policy sites) m.row.id id ≡ true
  peer_listed m id here h =
      let found = list_any_found (λ (peer : NodeRow). peer.id == id) (peers_of w m) h in
      let at = mapped_member (shown w m (visible w m)) (visible w m) found.0 found.1 in
      let n : Node = at.0 in
      let inside = filter_member (sees w m) w.nodes n at.1 in
      let is : n.row.id ≡ id = ap (λ (peer : NodeRow). peer.id) at.2 ∙ eqb-true found.0.id id found.2 in
      let seen = sym (sight_rules settings policy rows live online m n sound_rules sound here inside) ∙ filtered_passes (sees w m) w.nodes n at.1 in
      let parts = and_parts (not (m.row.id == n.row.id)) (lets m.site n.site || lets n.site m.site) seen in
      there m n id here inside is (λ e. both_ways (m.row.id == n.row.id) (not-true (m.row.id == n.row.id) parts.0) (eq-eqb m.row.id n.row.id e)) parts.1

  -- ---- from the report to maps

  peer_of : (m n : Node) (id : ℕ) → Contains w.nodes m → Contains w.nodes n → n.row.id ≡ id → (m.row.id ≡ n.row.id → ⊥) → (lets m.site n.site || lets n.site m.site) ≡ true
      → has_peer (fresh w m) id ≡ true
  peer_of m n id p q is differ h =
      let apart : not (m.row.id == n.row.id) ≡ true = not_from_false (m.row.id == n.row.id) (ne_eqb m.row.id n.row.id differ) in
      let seen : sees w m n ≡ true =
      sight_rules settings policy rows live online m n sound_rules sound p q ∙ and_from (not (m.row.id == n.row.id)) (lets m.site n.site || lets n.site m.site) apart h in
      list_any_is (λ (peer : NodeRow). peer.id == id) (peers_of w m) (shown w m (visible w m) n)
      (map_member (shown w m (visible w m)) (visible w m) n (filtered_member (sees w m) w.nodes n q seen)) (eq-eqb n.row.id id is)

  ends_of_reach : (x : Reach) → IsReach policy sites x → Ends w.nodes lets x
  ends_of_reach x r =
      let na = site_node r.a r.source in
      let nb = site_node r.b r.dest in
      let through : lets r.a r.b ≡ true = sym (live_reach policy rows live r.a r.b sound_rules sound r.source r.dest) ∙ r.reached in
      record {
        a = na.0;
        b = nb.0;
        source = na.1;
        dest = nb.1;
        from = sym (node_id na.0 na.1) ∙ (ap (λ (s : Site). s.id) na.2 ∙ r.from);
        to = sym (node_id nb.0 nb.1) ∙ (ap (λ (s : Site). s.id) nb.2 ∙ r.to);
        differ = r.differ;
        through = (λ i. lets (na.2 i) (nb.2 i)) ∙ through;
      }

  listed_peer : (m : Node) (id : ℕ) → Contains w.nodes m → has_pair (reach_list policy sites) m.row.id id ≡ true → has_peer (fresh w m) id ≡ true
  listed_peer m id here h =
      let found = list_any_found (joins_pair m.row.id id) (reach_list policy sites) h in
      let x : Reach = found.0 in
      let e = ends_of_reach x (listed_reach policy rows live sound_rules sound x found.1) in
      elim (or_cases (x.from == m.row.id && x.to == id) (x.from == id && x.to == m.row.id) found.2) [
        | inl p ↦
            let parts = and_parts (x.from == m.row.id) (x.to == id) p in
            let mine : e.a ≡ m = same_node e.a m e.source here (e.from ∙ eqb-true x.from m.row.id parts.0) in
            let to : lets m.site e.b.site ≡ true = subst (λ (z : Node). lets z.site e.b.site ≡ true) mine e.through in
            let apart : m.row.id ≡ e.b.row.id → ⊥ = λ q. e.differ (eqb-true x.from m.row.id parts.0 ∙ (q ∙ e.to)) in
            peer_of m e.b id here e.dest (e.to ∙ eqb-true x.to id parts.1) apart (or_left (lets m.site e.b.site) (lets e.b.site m.site) to)
        | inr p ↦
            let parts = and_parts (x.from == id) (x.to == m.row.id) p in
            let mine : e.b ≡ m = same_node e.b m e.dest here (e.to ∙ eqb-true x.to m.row.id parts.1) in
            let back : lets e.a.site m.site ≡ true = subst (λ (z : Node). lets e.a.site z.site ≡ true) mine e.through in
            let apart : m.row.id ≡ e.a.row.id → ⊥ = λ q. e.differ (sym e.from ∙ (sym q ∙ sym (eqb-true x.to m.row.id parts.1))) in
            peer_of m e.a id here e.source (e.from ∙ eqb-true x.from id parts.0) apart (or_right (lets m.site e.a.site) (lets e.a.site m.site) back)
      ]

  -- A machine is a peer in the map of another exactly where the report says something of the two.
  pub agree : (m : Node) (id : ℕ) → Contains w.nodes m → has_peer (fresh w m) id ≡ has_pair (reach_list policy sites) m.row.id id
  agree m id here = same_tests (has_peer (fresh w m) id) (has_pair (reach_list policy sites) m.row.id id) (peer_listed m id here) (listed_peer m id here)
