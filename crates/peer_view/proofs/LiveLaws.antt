-- Sites of the live machines, found by id, and reach between them.
use Rattle.std.proofs.Common.{◌≡◌, ◌<◌, ◌^◌, ◌==◌, ℕ, Bool, true, false, List, arith, refl, ap, sym, ◌∙◌, subst}
use Rattle.std.specs.Prelude.{Contains, Option, Some, None, filter, map}
use Rattle.std.specs.List.{find}
use Rattle.std.specs.Option.{option_map, option_map_or}
use Rattle.net_addr.specs.Bits.{Address, family_size}
use Rattle.net_addr.specs.Blocks.{holds}
use Rattle.net_addr.specs.Tailnet.{tailnet_v4, tailnet_v6}
use Rattle.net_addr.proofs.BlockLemmas.{holds_parts}
use Rattle.net_rows.specs.Damage.{damage}
use Rattle.net_rows.specs.Shelf.{IsAscending}
use Rattle.net_rows.specs.Sound.{MachineKeeps}
use Rattle.net_rows.specs.declared.machine.Machine.{Machine}
use Rattle.net_rows.specs.declared.rows.Rows.{Rows}
use Rattle.net_rows.specs.declared.user.User.{User}
use Rattle.net_rows.proofs.Members.{find_member}
use Rattle.net_rows.proofs.Sounds.{sound_of}
use Rattle.settings.specs.declared.fields.SettingsFields.{SettingsFields}
use Rattle.policy_rows.specs.declared.policy.Policy.{Policy}
use Rattle.policy_sites.specs.Grants.{groups_of, rules_of}
use Rattle.policy_sites.specs.Reach.{AreSoundRules}
use Rattle.policy_sites.specs.Sites.{is_among, site_of, sites_of}
use Rattle.policy_sites.specs.declared.site.Site.{Site}
use Rattle.policy_sites.proofs.SiteLemmas.{one_site, sites_apart}
use Rattle.policy_sites.specs.ByRule.{IsSoundSite, site_reaches}
use Rattle.peer_view.specs.Reaches.{id_reaches, reaches, site_with}
use Rattle.peer_view.specs.Seen.{Node, live_node, node_reaches, node_with, of_ids, seen_of}
use Rattle.peer_view.proofs.ListLemmas.{ascending_filter, ascending_map, filter_member, find_map, map_member, map_twice, mapped_member}
use Rattle.peer_view.proofs.ReachLaws.{local_reach}

below_v4 : (addr : Address) → holds tailnet_v4 addr ≡ true → addr.bits < family_size addr.v6
below_v4 addr h =
    let p = holds_parts tailnet_v4 addr h in
    let most = p.2 in
    let small : addr.bits < 2 ^ 32 = omega arith in
    subst (λ (v6 : Bool). addr.bits < family_size v6) p.0 small

below_v6 : (addr : Address) → holds tailnet_v6 addr ≡ true → addr.bits < family_size addr.v6
below_v6 addr h =
    let p = holds_parts tailnet_v6 addr h in
    let most = p.2 in
    let small : addr.bits < 2 ^ 128 = omega arith in
    subst (λ (v6 : Bool). addr.bits < family_size v6) p.0 small

sound_machine : (policy : Option Policy) (users : List User) (m : Machine) → MachineKeeps users m → IsSoundSite (site_of policy users m)
sound_machine policy users m keeps = record { v4 = below_v4 m.v4 keeps.v4; v6 = below_v6 m.v6 keeps.v6 }

-- the site of a live machine of tables that keep their rules
sound_live : (policy : Option Policy) (rows : Rows) (live : List ℕ) → damage rows ≡ None → (m : Machine) → Contains (filter (is_among live) rows.machines) m → IsSoundSite (site_of policy rows.users m)
sound_live policy rows live sound m inside =
    sound_machine policy rows.users m ((sound_of rows sound).machines.keeps m (filter_member (is_among live) rows.machines m inside))

pub sound_site : (policy : Option Policy) (rows : Rows) (live : List ℕ) → damage rows ≡ None → (s : Site) → Contains (sites_of policy rows live) s → IsSoundSite s
sound_site policy rows live sound s inside =
    let at = mapped_member (site_of policy rows.users) (filter (is_among live) rows.machines) s inside in
    subst (λ (z : Site). IsSoundSite z) at.2 (sound_live policy rows live sound at.0 at.1)

-- Reach between live machines of tables that keep their rules.
pub live_reach : (policy : Option Policy) (rows : Rows) (live : List ℕ) (a b : Site) → AreSoundRules (rules_of policy) → damage rows ≡ None
    → Contains (sites_of policy rows live) a → Contains (sites_of policy rows live) b → reaches policy (sites_of policy rows live) a b ≡ site_reaches (groups_of policy) (rules_of policy) a b
live_reach policy rows live a b rules sound m n =
    local_reach policy (sites_of policy rows live) a b rules (one_site policy rows live sound) (sites_apart policy rows live sound) m n (sound_site policy rows live sound b n)

-- The same between nodes of a world.
pub node_reach : (settings : SettingsFields) (policy : Option Policy) (rows : Rows) (live online : List ℕ) (a b : Node) → AreSoundRules (rules_of policy) → damage rows ≡ None
    → Contains (seen_of settings policy rows live online).nodes a → Contains (seen_of settings policy rows live online).nodes b
    → node_reaches (seen_of settings policy rows live online) a b ≡ site_reaches (groups_of policy) (rules_of policy) a.site b.site
node_reach settings policy rows live online a b rules sound m n =
    let nodes = (seen_of settings policy rows live online).nodes in
    let machines = filter (is_among live) rows.machines in
    let site : Node → Site = λ z. z.site in
    let whole : map site nodes ≡ sites_of policy rows live = map_twice (live_node policy rows.users online) site machines in
    let inside : (z : Node) → Contains nodes z → Contains (sites_of policy rows live) z.site = λ z at. subst (λ (ss : List Site). Contains ss z.site) whole (map_member site nodes z at) in
    ap (λ (ss : List Site). reaches policy ss a.site b.site) whole ∙ live_reach policy rows live a.site b.site rules sound (inside a m) (inside b n)

-- ---- by id

-- the sites of sound tables go by id
pub sites_ascend : (policy : Option Policy) (rows : Rows) (live : List ℕ) → damage rows ≡ None → IsAscending (λ (s : Site). s.id) (sites_of policy rows live)
sites_ascend policy rows live sound =
    ascending_map (λ (m : Machine). m.id) (site_of policy rows.users) (λ (s : Site). s.id) (λ m. refl) (filter (is_among live) rows.machines)
    (ascending_filter (λ (m : Machine). m.id) (is_among live) rows.machines (sound_of rows sound).machines.ascend)

-- what is found of two ids
abbrev pub on_both : {A : Type 0} → (A → A → Bool) → Option A → Option A → Bool
on_both test a b = option_map_or (λ x. option_map_or (test x) b false) a false

both_is : (policy : Option Policy) (rows : Rows) (live online : List ℕ) → AreSoundRules (rules_of policy) → damage rows ≡ None → (settings : SettingsFields) → (a b : Option Machine)
    → ((m : Machine) → a ≡ Some m → Contains (filter (is_among live) rows.machines) m)
    → ((m : Machine) → b ≡ Some m → Contains (filter (is_among live) rows.machines) m)
    → on_both (node_reaches (seen_of settings policy rows live online)) (option_map (live_node policy rows.users online) a) (option_map (live_node policy rows.users online) b)
    ≡ on_both (site_reaches (groups_of policy) (rules_of policy)) (option_map (site_of policy rows.users) a) (option_map (site_of policy rows.users) b)
both_is policy rows live online rules sound settings None b m n = refl
both_is policy rows live online rules sound settings (Some x) None m n = refl
both_is policy rows live online rules sound settings (Some x) (Some y) m n =
    let machines = filter (is_among live) rows.machines in
    let f : Machine → Site = site_of policy rows.users in
    let whole : map (λ (z : Node). z.site) (map (live_node policy rows.users online) machines) ≡ sites_of policy rows live = map_twice (live_node policy rows.users online) (λ (z : Node). z.site) machines in
    ap (λ (ss : List Site). reaches policy ss (f x) (f y)) whole
    ∙ live_reach policy rows live (f x) (f y) rules sound (map_member f machines x (m x refl)) (map_member f machines y (n y refl))

pub pair_is : (settings : SettingsFields) (policy : Option Policy) (rows : Rows) (live online : List ℕ) (a b : ℕ) → AreSoundRules (rules_of policy) → damage rows ≡ None
    → of_ids (node_reaches (seen_of settings policy rows live online)) (seen_of settings policy rows live online) a b ≡ id_reaches (groups_of policy) (rules_of policy) (sites_of policy rows live) a b
pair_is settings policy rows live online a b rules sound =
    let machines = filter (is_among live) rows.machines in
    let w = seen_of settings policy rows live online in
    let at : ℕ → Option Machine = λ k. find (λ (m : Machine). m.id == k) machines in
    let f : Machine → Site = site_of policy rows.users in
    let g : Machine → Node = live_node policy rows.users online in
    let nodes : (k : ℕ) → node_with w k ≡ option_map g (at k) = λ k. find_map g (λ (n : Node). n.row.id == k) machines in
    let sites : (k : ℕ) → site_with (sites_of policy rows live) k ≡ option_map f (at k) = λ k. find_map f (λ (s : Site). s.id == k) machines in
    let left : of_ids (node_reaches w) w a b ≡ on_both (node_reaches w) (option_map g (at a)) (option_map g (at b)) = λ i. on_both (node_reaches w) (nodes a i) (nodes b i) in
    let reach : Site → Site → Bool = site_reaches (groups_of policy) (rules_of policy) in
    let right : id_reaches (groups_of policy) (rules_of policy) (sites_of policy rows live) a b ≡ on_both reach (option_map f (at a)) (option_map f (at b)) = λ i. on_both reach (sites a i) (sites b i) in
    let inside : (k : ℕ) (m : Machine) → at k ≡ Some m → Contains machines m = λ k m e. (find_member (λ (z : Machine). z.id == k) machines m e).0 in
    left ∙ (both_is policy rows live online rules sound settings (at a) (at b) (inside a) (inside b) ∙ sym right)
