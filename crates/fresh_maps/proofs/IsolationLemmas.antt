-- Who isn't seen changes nothing of a map.
use Rattle.std.proofs.Common.{◌≡◌, ◌==◌, ◌||◌, ◌&&◌, ℕ, Bool, true, false, not, List, [], ◌∷◌, refl, ap, sym, ◌∙◌, inl, inr}
use Rattle.std.specs.Prelude.{Contains, Option, None, filter, is_some, map}
use Rattle.std.proofs.lemmas.Bool.{both_ways, cases_Bool, eq-eqb, ne_eqb, or_left}
use Rattle.net_rows.specs.Damage.{damage}
use Rattle.net_rows.specs.declared.rows.Rows.{Rows}
use Rattle.net_rows.proofs.Members.{first_member, rest_member}
use Rattle.net_rows.proofs.RowAt.{row_at_is}
use Rattle.settings.specs.declared.fields.SettingsFields.{SettingsFields}
use Rattle.policy_rows.specs.declared.policy.Policy.{Policy}
use Rattle.policy_sites.specs.ByRule.{site_reaches}
use Rattle.policy_sites.specs.Grants.{groups_of, rules_of}
use Rattle.policy_sites.specs.Reach.{AreSoundRules}
use Rattle.policy_sites.specs.Sites.{AreServedApart, AreDistinct}
use Rattle.policy_sites.specs.declared.site.Site.{Site}
use Rattle.policy_sites.proofs.SiteLemmas.{one_site, sites_apart}
use Rattle.filter_compile.specs.Filters.{filter_of}
use Rattle.filter_compile.specs.Isolation.{is_near}
use Rattle.filter_compile.proofs.IsolationLemmas.{filter_near}
use Rattle.peer_view.specs.Isolation.{only_seen}
use Rattle.peer_view.specs.Seen.{IsSoundSeen, Node, Seen, is_node, node_reaches, seen_of, sees, sites_seen, visible}
use Rattle.peer_view.specs.Shown.{own_row, shown}
use Rattle.peer_view.proofs.IsolationLaws.{IsAtHome, shown_same, visible_same}
use Rattle.peer_view.proofs.ListLemmas.{map_member}
use Rattle.peer_view.proofs.ReachLaws.{local_reach}
use Rattle.peer_view.proofs.WorldLaws.{seen_sound, sites_are}
use Rattle.fresh_maps.specs.Fresh.{fresh, peers_of}
use Rattle.fresh_maps.specs.Profiles.{owners_of}

-- ---- lists

map_same : {A B : Type 0} (f g : A → B) (xs : List A) → ((x : A) → Contains xs x → f x ≡ g x) → map f xs ≡ map g xs
map_same f g [] same = refl
map_same f g (x ∷ xs) same =
    let rest = map_same f g xs (λ a m. same a (rest_member x xs a m)) in
    λ i. same x (first_member x xs) i ∷ rest i

map_filter : {A B : Type 0} (f : A → B) (p : A → Bool) (q : B → Bool) (xs : List A) → ((x : A) → Contains xs x → p x ≡ q (f x)) → map f (filter p xs) ≡ filter q (map f xs)
map_filter f p q [] same = refl
map_filter {A} {B} f p q (x ∷ xs) same =
    let rest = map_filter f p q xs (λ a m. same a (rest_member x xs a m)) in
    let here = same x (first_member x xs) in
    elim (cases_Bool (p x)) [
      | inl passes ↦ let also : q (f x) ≡ true = sym here ∙ passes in rw (passes, also) (ap (λ (ys : List B). f x ∷ ys) rest)
      | inr fails ↦ let also : q (f x) ≡ false = sym here ∙ fails in rw (fails, also) rest
    ]

-- ---- a live machine, and rules that keep theirs

record IsHeld (w : Seen) (m : Node) : Type 0 where
  inside : Contains w.nodes m
  sound : IsSoundSeen w
  rules : AreSoundRules (rules_of w.policy)
  distinct : AreDistinct (sites_seen w)
  apart : AreServedApart (sites_seen w)

at_home : (w : Seen) (m : Node) → IsHeld w m → IsAtHome w m
at_home w m at = record { inside = at.inside; ascend = at.sound.nodes; distinct = at.distinct; apart = at.apart }

live : (w : Seen) (n : Node) → IsSoundSeen w → Contains w.nodes n → is_node w n ≡ true
live w n sound inside = ap (λ (o : Option Node). is_some o) (row_at_is (λ (z : Node). z.row.id) w.nodes n sound.nodes inside)

by_rules : (w : Seen) (m a b : Node) → IsHeld w m → Contains w.nodes a → Contains w.nodes b → node_reaches w a b ≡ site_reaches (groups_of w.policy) (rules_of w.policy) a.site b.site
by_rules w m a b at here there =
    local_reach w.policy (sites_seen w) a.site b.site at.rules at.distinct at.apart (map_member (λ (z : Node). z.site) w.nodes a here) (map_member (λ (z : Node). z.site) w.nodes b there) (at.sound.addresses b there)

-- who stays is near by the rules
near_is : (w : Seen) (m q : Node) → IsHeld w m → Contains w.nodes q → (q.row.id == m.row.id || sees w m q) ≡ is_near (groups_of w.policy) (rules_of w.policy) m.site q.site
near_is w m q at here = elim (cases_Bool (q.row.id == m.row.id)) [
  | inl same ↦ or_left (q.row.id == m.row.id) (sees w m q) same ∙ sym (or_left (q.site.id == m.site.id) reached (sym ids ∙ same))
  | inr other ↦
      let apart : (m.row.id == q.row.id) ≡ false = ne_eqb m.row.id q.row.id (λ e. both_ways (q.row.id == m.row.id) other (eq-eqb q.row.id m.row.id (sym e))) in
      let own = live w m at.sound at.inside in
      let peer = live w q at.sound here in
      let to = by_rules w m m q at at.inside here in
      let from = by_rules w m q m at here at.inside in
      let seen : sees w m q ≡ reached = λ i. own i && peer i && not (apart i) && (to i || from i) in
      ap (λ (b : Bool). b || sees w m q) other ∙ (seen ∙ sym (ap (λ (b : Bool). b || reached) (sym ids ∙ other)))
]
  where
    ids : (q.row.id == m.row.id) ≡ (q.site.id == m.site.id)
    ids = λ i. sym (at.sound.sites q here) i == sym (at.sound.sites m at.inside) i

    reached : Bool
    reached = site_reaches (groups_of w.policy) (rules_of w.policy) m.site q.site || site_reaches (groups_of w.policy) (rules_of w.policy) q.site m.site

sites_only : (w : Seen) (m : Node) → IsHeld w m → sites_seen (only_seen w m) ≡ filter (is_near (groups_of w.policy) (rules_of w.policy) m.site) (sites_seen w)
sites_only w m at =
    map_filter (λ (n : Node). n.site) (λ (q : Node). q.row.id == m.row.id || sees w m q) (is_near (groups_of w.policy) (rules_of w.policy) m.site) w.nodes (λ q here. near_is w m q at here)

-- ---- the parts of a map

filter_only : (w : Seen) (m : Node) → IsHeld w m → filter_of w.policy (sites_seen w) m.site ≡ filter_of w.policy (sites_seen (only_seen w m)) m.site
filter_only w m at =
    filter_near w.policy (sites_seen w) m.site at.distinct at.apart (map_member (λ (z : Node). z.site) w.nodes m at.inside)
    ∙ ap (λ (ss : List Site). filter_of w.policy ss m.site) (sym (sites_only w m at))

peers_only : (w : Seen) (m : Node) → IsHeld w m → peers_of w m ≡ peers_of (only_seen w m) m
peers_only w m at =
    let same = visible_same w m (at_home w m at) in
    map_same (shown w m (visible w m)) (shown (only_seen w m) m (visible w m)) (visible w m) (λ p inside. shown_same w m (visible w m) p (at_home w m at) inside)
    ∙ (λ i. map (shown (only_seen w m) m (same i)) (same i))

-- A map is that of what its machine sees alone.
pub isolated_map : (w : Seen) (m : Node) → Contains w.nodes m → IsSoundSeen w → AreSoundRules (rules_of w.policy) → AreDistinct (sites_seen w) → AreServedApart (sites_seen w) → fresh w m ≡ fresh (only_seen w m) m
isolated_map w m inside sound rules distinct apart =
    let at : IsHeld w m = record { inside = inside; sound = sound; rules = rules; distinct = distinct; apart = apart } in
    let peers = peers_only w m at in
    let packets = filter_only w m at in
    λ i. record {
      node = own_row w m;
      peers = peers i;
      filter = packets i;
      dns = record { settings = w.settings.dns; extras = w.extras };
      domain = w.settings.base_domain;
      profiles = owners_of w.users (own_row w m ∷ peers i);
    }

-- of tables that keep their rules
pub map_isolated : (settings : SettingsFields) (policy : Option Policy) (rows : Rows) (live online : List ℕ) (m : Node) → damage rows ≡ None → AreSoundRules (rules_of policy)
    → Contains (seen_of settings policy rows live online).nodes m → fresh (seen_of settings policy rows live online) m ≡ fresh (only_seen (seen_of settings policy rows live online) m) m
map_isolated settings policy rows live online m kept sound inside =
    let w = seen_of settings policy rows live online in
    let distinct : AreDistinct (sites_seen w) = rw (sites_are settings policy rows live online) (one_site policy rows live kept) in
    let apart : AreServedApart (sites_seen w) = rw (sites_are settings policy rows live online) (sites_apart policy rows live kept) in
    isolated_map w m inside (seen_sound settings policy rows live online kept) sound distinct apart
