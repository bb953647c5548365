-- What an expansion that fits lends.
use Rattle.std.proofs.Common.{◌≡◌, ◌<◌, ◌≤◌, ◌==◌, ℕ, Bool, true, false, List, [], arith, refl, ap, sym, ◌∙◌, subst}
use Rattle.std.specs.Prelude.{Contains, Option, Some, None, filter, slice_index_or}
use Rattle.std.specs.List.{find}
use Rattle.std.specs.Option.{option_map, option_map_or}
use Rattle.std.proofs.lemmas.Bool.{eqb-true}
use Rattle.net_rows.specs.Damage.{damage}
use Rattle.net_rows.specs.Rows.{machine_with}
use Rattle.net_rows.specs.declared.machine.Machine.{Machine}
use Rattle.net_rows.proofs.Members.{find_member}
use Rattle.net_rows.proofs.RowAt.{row_at_is}
use Rattle.net_rows.proofs.Sounds.{sound_of}
use Rattle.net_rows.specs.Shelf.{IsAscending, StandsAt}
use Rattle.net_rows.specs.declared.rows.Rows.{Rows}
use Rattle.settings.specs.declared.fields.SettingsFields.{SettingsFields}
use Rattle.policy_rows.specs.declared.policy.Policy.{Policy}
use Rattle.policy_rows.specs.declared.group.Group.{Group}
use Rattle.policy_rows.specs.declared.rule.Rule.{Rule}
use Rattle.policy_eval.specs.Expansion.{Expansion}
use Rattle.policy_sites.specs.Grants.{groups_of, rules_of}
use Rattle.policy_sites.specs.Reach.{AreSoundRules}
use Rattle.policy_sites.specs.Sites.{is_among, is_listed, site_of, sites_of}
use Rattle.policy_sites.specs.declared.site.Site.{Site}
use Rattle.policy_sites.specs.ByRule.{site_reaches}
use Rattle.peer_view.specs.Reaches.{id_reaches, site_with}
use Rattle.peer_view.specs.Seen.{IsSoundSeen, Node, Seen, expansion_seen, live_node, node_reaches, node_with, of_ids, seen_of, sites_seen}
use Rattle.peer_view.specs.Worlds.{IsWorld}
use Rattle.peer_view.proofs.ListLemmas.{ascending_filter, ascending_map, filter_member, find_map, map_member, map_twice, mapped_member}
use Rattle.peer_view.proofs.LiveLaws.{pair_is, sites_ascend, sound_site}

pub world_ascends : (made : Expansion) (policy : Option Policy) (rows : Rows) (live : List ℕ) (sites : List Site) → IsWorld made policy rows live → sites ≡ made.sites
    → IsAscending (λ (s : Site). s.id) sites
world_ascends made policy rows live sites world is =
    let whole : sites ≡ sites_of policy rows live = is ∙ ap (λ (x : Expansion). x.sites) world.fits in
    subst (λ (ss : List Site). IsAscending (λ (s : Site). s.id) ss) (sym whole) (sites_ascend policy rows live world.sound)

pub world_pair : (settings : SettingsFields) (policy : Option Policy) (rows : Rows) (live online : List ℕ) (made : Expansion) (w : Seen) → IsWorld made policy rows live
    → seen_of settings policy rows live online ≡ w → AreSoundRules made.rules
    → (groups : List Group) (rules : List Rule) (sites : List Site) → groups ≡ made.groups → rules ≡ made.rules → sites ≡ made.sites
    → (a b : ℕ) (result : Bool) → result ≡ id_reaches groups rules sites a b → result ≡ of_ids (node_reaches w) w a b
world_pair settings policy rows live online made w world seen sound groups rules sites gs rs ss a b result is =
    let g : groups ≡ groups_of policy = gs ∙ ap (λ (x : Expansion). x.groups) world.fits in
    let r : rules ≡ rules_of policy = rs ∙ ap (λ (x : Expansion). x.rules) world.fits in
    let s : sites ≡ sites_of policy rows live = ss ∙ ap (λ (x : Expansion). x.sites) world.fits in
    let sound' : AreSoundRules (rules_of policy) = subst (λ (x : Expansion). AreSoundRules x.rules) world.fits sound in
    let moved : id_reaches groups rules sites a b ≡ id_reaches (groups_of policy) (rules_of policy) (sites_of policy rows live) a b = λ i. id_reaches (g i) (r i) (s i) a b in
    is ∙ (moved ∙ (sym (pair_is settings policy rows live online a b sound' world.sound) ∙ ap (λ (x : Seen). of_ids (node_reaches x) x a b) seen))

-- ---- what is lent of it

pub sites_are : (settings : SettingsFields) (policy : Option Policy) (rows : Rows) (live online : List ℕ) → sites_seen (seen_of settings policy rows live online) ≡ sites_of policy rows live
sites_are settings policy rows live online = map_twice (live_node policy rows.users online) (λ (n : Node). n.site) (filter (is_among live) rows.machines)

pub expansion_is : (settings : SettingsFields) (policy : Option Policy) (rows : Rows) (live online : List ℕ) (made : Expansion) (w : Seen) → IsWorld made policy rows live
    → seen_of settings policy rows live online ≡ w → made ≡ expansion_seen w
expansion_is settings policy rows live online made w world seen =
    let whole = sites_are settings policy rows live online in
    world.fits ∙ (λ i. record { groups = groups_of policy; rules = rules_of policy; sites = sym whole i }) ∙ ap expansion_seen seen

nodes_ascend : (settings : SettingsFields) (policy : Option Policy) (rows : Rows) (live online : List ℕ) → damage rows ≡ None → IsAscending (λ (n : Node). n.row.id) (seen_of settings policy rows live online).nodes
nodes_ascend settings policy rows live online sound =
    ascending_map (λ (m : Machine). m.id) (live_node policy rows.users online) (λ (n : Node). n.row.id) (λ m. refl) (filter (is_among live) rows.machines)
    (ascending_filter (λ (m : Machine). m.id) (is_among live) rows.machines (sound_of rows sound).machines.ascend)

-- the row of a live machine
pub row_of_node : (settings : SettingsFields) (policy : Option Policy) (rows : Rows) (live online : List ℕ) (n : Node) → Contains (seen_of settings policy rows live online).nodes n
    → Contains rows.machines n.row × (live_node policy rows.users online n.row ≡ n)
row_of_node settings policy rows live online n inside =
    let at = mapped_member (live_node policy rows.users online) (filter (is_among live) rows.machines) n inside in
    let row : at.0 ≡ n.row = ap (λ (z : Node). z.row) at.2 in
    let here : Contains rows.machines at.0 = filter_member (is_among live) rows.machines at.0 at.1 in
    (subst (λ (m : Machine). Contains rows.machines m) row here, ap (live_node policy rows.users online) (sym row) ∙ at.2)

-- What is seen of tables that keep their rules.
pub seen_sound : (settings : SettingsFields) (policy : Option Policy) (rows : Rows) (live online : List ℕ) → damage rows ≡ None → IsSoundSeen (seen_of settings policy rows live online)
seen_sound settings policy rows live online kept =
    let sound = sound_of rows kept in
    record {
      nodes = nodes_ascend settings policy rows live online kept;
      sites = λ n inside. let at = row_of_node settings policy rows live online n inside in ap (λ (z : Node). z.site.id) (sym at.1);
      addresses = λ n inside. sound_site policy rows live kept n.site (subst (λ (ss : List Site). Contains ss n.site) (sites_are settings policy rows live online) (map_member (λ (z : Node). z.site) (seen_of settings policy rows live online).nodes n inside));
      users = sound.users.ascend;
      ids = λ u inside.
          let below : u.id < rows.next.user = (sound.users.ids u inside).1 in
          let most : rows.next.user ≤ 2147483647 = sound.counters.user.1 in
          omega arith;
      owners = λ n inside. (sound.machines.keeps n.row (row_of_node settings policy rows live online n inside).0).user;
    }

-- the live machine of a site, as it is looked up
pub node_is : (settings : SettingsFields) (policy : Option Policy) (rows : Rows) (live online : List ℕ) (s : Site) → damage rows ≡ None → Contains (sites_seen (seen_of settings policy rows live online)) s
    → (m : Machine) × (machine_with rows.machines s.id ≡ Some m) × (node_with (seen_of settings policy rows live online) s.id ≡ Some (record { row = m; site = s; online = is_listed online s.id }))
node_is settings policy rows live online s sound inside =
    let w = seen_of settings policy rows live online in
    let at = mapped_member (λ (n : Node). n.site) w.nodes s inside in
    let n = at.0 in
    let own = row_of_node settings policy rows live online n at.1 in
    let site : site_of policy rows.users n.row ≡ s = ap (λ (z : Node). z.site) own.1 ∙ at.2 in
    let id : n.row.id ≡ s.id = ap (λ (z : Site). z.id) site in
    let row : machine_with rows.machines n.row.id ≡ Some n.row = row_at_is (λ (m : Machine). m.id) rows.machines n.row (sound_of rows sound).machines.ascend own.0 in
    let node : node_with w n.row.id ≡ Some n = row_at_is (λ (z : Node). z.row.id) w.nodes n (nodes_ascend settings policy rows live online sound) at.1 in
    let whole : live_node policy rows.users online n.row ≡ record { row = n.row; site = s; online = is_listed online s.id } =
    λ i. record { row = n.row; site = site i; online = is_listed online (id i) } in
    (n.row, ap (λ (k : ℕ). machine_with rows.machines k) (sym id) ∙ row, ap (λ (k : ℕ). node_with w k) (sym id) ∙ (node ∙ ap (λ (z : Node). Some z) (sym own.1 ∙ whole)))

-- an id without a site is no live machine's
pub site_absent : (settings : SettingsFields) (policy : Option Policy) (rows : Rows) (live online : List ℕ) (k : ℕ) → site_with (sites_of policy rows live) k ≡ None → node_with (seen_of settings policy rows live online) k ≡ None
site_absent settings policy rows live online k none =
    let machines = filter (is_among live) rows.machines in
    let at : Option Machine = find (λ (m : Machine). m.id == k) machines in
    let nodes : node_with (seen_of settings policy rows live online) k ≡ option_map (live_node policy rows.users online) at = find_map (live_node policy rows.users online) (λ (n : Node). n.row.id == k) machines in
    let sites : site_with (sites_of policy rows live) k ≡ option_map (site_of policy rows.users) at = find_map (site_of policy rows.users) (λ (s : Site). s.id == k) machines in
    nodes ∙ go at (sym sites ∙ none)
  where
    go : (o : Option Machine) → option_map (site_of policy rows.users) o ≡ None → option_map (live_node policy rows.users online) o ≡ None
    go None e = refl
    go (Some m) e = absurd (cc)

-- a row that was found, with the site and whether it is online
row_matched : (s : Site) (online : List ℕ) (m n : Machine) (b : Bool) (o : Option Node) → m ≡ n → b ≡ is_listed online s.id
    → o ≡ Some (record { row = n; site = s; online = is_listed online s.id }) → Some (record { row = m; site = s; online = b }) ≡ o
row_matched s online m n b o same listed at = (λ i. Some (record { row = same i; site = s; online = listed i })) ∙ sym at

-- what a lookup of the row gives
pub row_looked_up : (settings : SettingsFields) (policy : Option Policy) (rows : Rows) (live online : List ℕ) (w : Seen) → seen_of settings policy rows live online ≡ w → damage rows ≡ None
    → (s : Site) → Contains (sites_seen w) s → (o : Option Machine) → o ≡ machine_with rows.machines s.id → (m : Machine) → o ≡ Some m → (b : Bool) → b ≡ is_listed online s.id
    → Some (record { row = m; site = s; online = b }) ≡ node_with w s.id
row_looked_up settings policy rows live online w seen sound s inside o is m found b listed =
    let here = subst (λ (x : Seen). Contains (sites_seen x) s) (sym seen) inside in
    let at = node_is settings policy rows live online s sound here in
    let both : Some m ≡ Some at.0 = sym found ∙ (is ∙ at.1) in
    let same : m ≡ at.0 = cc in
    row_matched s online m at.0 b (node_with (seen_of settings policy rows live online) s.id) same listed at.2 ∙ ap (λ (x : Seen). node_with x s.id) seen

pub row_missing : (settings : SettingsFields) (policy : Option Policy) (rows : Rows) (live online : List ℕ) (w : Seen) → seen_of settings policy rows live online ≡ w → damage rows ≡ None
    → (s : Site) → Contains (sites_seen w) s → (o : Option Machine) → o ≡ machine_with rows.machines s.id → o ≡ None → None ≡ node_with w s.id
row_missing settings policy rows live online w seen sound s inside o is found =
    let here = subst (λ (x : Seen). Contains (sites_seen x) s) (sym seen) inside in
    let at = node_is settings policy rows live online s sound here in
    let clash : None ≡ Some at.0 = sym found ∙ (is ∙ at.1) in
    absurd (cc)

world_sites : (settings : SettingsFields) (policy : Option Policy) (rows : Rows) (live online : List ℕ) (made : Expansion) (w : Seen) → IsWorld made policy rows live
    → seen_of settings policy rows live online ≡ w → (sites : List Site) → sites ≡ made.sites → sites ≡ sites_seen w
world_sites settings policy rows live online made w world seen sites is =
    is ∙ ap (λ (x : Expansion). x.sites) (expansion_is settings policy rows live online made w world seen)

-- what a lookup of the site gives
pub site_missing : (settings : SettingsFields) (policy : Option Policy) (rows : Rows) (live online : List ℕ) (made : Expansion) (w : Seen) → IsWorld made policy rows live
    → seen_of settings policy rows live online ≡ w → (sites : List Site) → sites ≡ made.sites → (k : ℕ) (o : Option Site) → o ≡ site_with sites k → o ≡ None → None ≡ node_with w k
site_missing settings policy rows live online made w world seen sites is k o looked found =
    let whole : sites ≡ sites_of policy rows live = is ∙ ap (λ (x : Expansion). x.sites) world.fits in
    let none : site_with (sites_of policy rows live) k ≡ None = ap (λ (ss : List Site). site_with ss k) (sym whole) ∙ (sym looked ∙ found) in
    sym (site_absent settings policy rows live online k none) ∙ ap (λ (x : Seen). node_with x k) seen

pub site_looked_up : (settings : SettingsFields) (policy : Option Policy) (rows : Rows) (live online : List ℕ) (made : Expansion) (w : Seen) → IsWorld made policy rows live
    → seen_of settings policy rows live online ≡ w → (sites : List Site) → sites ≡ made.sites → (k : ℕ) (o : Option Site) → o ≡ site_with sites k → (s : Site) → o ≡ Some s
    → Contains (sites_seen w) s × (s.id ≡ k)
site_looked_up settings policy rows live online made w world seen sites is k o looked s found =
    let at = find_member (λ (z : Site). z.id == k) sites s (sym looked ∙ found) in
    let whole = world_sites settings policy rows live online made w world seen sites is in
    (subst (λ (ss : List Site). Contains ss s) whole at.0, eqb-true s.id k at.1)

-- ---- by places

pub any_site : Site
any_site = record {
  id = 0;
  user = 0;
  login = [];
  v4 = record { v6 = false; bits = 0 };
  v6 = record { v6 = true; bits = 0 };
  tags = [];
  routes = [];
  by_operator = [];
  approved = [];
  exit = false;
}

-- what stands at the places of two ids
pub places_reach : (groups : List Group) (rules : List Rule) (sites slice : List Site) (a b i j : ℕ) → slice ≡ sites → StandsAt (λ (s : Site). s.id) slice a i → StandsAt (λ (s : Site). s.id) slice b j
    → site_reaches groups rules (slice_index_or sites i any_site) (slice_index_or sites j any_site) ≡ id_reaches groups rules sites a b
places_reach groups rules sites slice a b i j same at to =
    let one : site_with sites a ≡ Some (slice_index_or sites i any_site) = subst (λ (ss : List Site). site_with ss a ≡ Some (slice_index_or ss i any_site)) same (at.is any_site) in
    let other : site_with sites b ≡ Some (slice_index_or sites j any_site) = subst (λ (ss : List Site). site_with ss b ≡ Some (slice_index_or ss j any_site)) same (to.is any_site) in
    λ k. option_map_or (λ x. option_map_or (site_reaches groups rules x) (sym other k) false) (sym one k) false
