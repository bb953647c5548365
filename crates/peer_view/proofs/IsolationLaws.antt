-- Who isn't seen changes neither whom a machine sees, nor how these are shown.
use Rattle.std.proofs.Common.{◌≡◌, ◌==◌, ◌&&◌, ◌||◌, ◌^◌, ◌++◌, ℕ, Bool, true, false, not, List, [], ◌∷◌, refl, ap, sym, subst, ◌∙◌, inl, inr, if◌then◌else◌}
use Rattle.std.specs.Prelude.{Contains, Option, filter, is_some}
use Rattle.std.specs.List.{list_any}
use Rattle.std.proofs.lemmas.Bool.{and_from, and_left, cases_Bool, eq-eqb, or_left, or_parts, or_right}
use Rattle.tail_base.specs.Searches.{some_below}
use Rattle.net_addr.specs.Bits.{Address, Block}
use Rattle.net_addr.specs.Blocks.{holds}
use Rattle.net_addr.specs.Searches.{some_address}
use Rattle.net_rows.specs.Shelf.{IsAscending}
use Rattle.net_rows.proofs.Members.{first_member, list_any_is, rest_member}
use Rattle.net_rows.proofs.RowAt.{row_at_is}
use Rattle.policy_rows.specs.Internet.{is_internet}
use Rattle.policy_rows.specs.declared.policy.Policy.{Policy}
use Rattle.range_sets.specs.Sets.{some_holds}
use Rattle.policy_sites.specs.Serving.{exits_if}
use Rattle.policy_sites.specs.ByRule.{site_addresses}
use Rattle.policy_sites.specs.Ends.{end_at}
use Rattle.policy_sites.specs.Grants.{grants}
use Rattle.policy_sites.specs.Reach.{reaches_into}
use Rattle.policy_sites.specs.Sites.{AreServedApart, AreDistinct, serves, site_has}
use Rattle.policy_sites.specs.declared.end.End.{End}
use Rattle.policy_sites.specs.declared.site.Site.{Site}
use Rattle.policy_sites.proofs.EndLemmas.{beyond_end, own_end, served_cases, serves_more, serves_own}
use Rattle.policy_sites.proofs.OwnLemmas.{has_v4, has_v6}
use Rattle.peer_view.specs.Isolation.{only_seen}
use Rattle.peer_view.specs.Nodes.{node_of, own_addresses}
use Rattle.peer_view.specs.Reaches.{reaches}
use Rattle.peer_view.specs.Seen.{Node, Seen, is_node, node_reaches, sees, sites_seen, visible}
use Rattle.peer_view.specs.Shown.{choice, granted_into, is_choice, is_shown, shown, shown_routes}
use Rattle.peer_view.proofs.ListLemmas.{ascending_filter, filter_member, filtered_member, filtered_passes, map_member, mapped_member}

-- ---- lists

-- tests that agree at the elements
filter_same : {A : Type 0} (p q : A → Bool) (xs : List A) → ((x : A) → Contains xs x → p x ≡ q x) → filter p xs ≡ filter q xs
filter_same p q [] same = refl
filter_same p q (x ∷ xs) same =
    let rest = filter_same p q xs (λ a m. same a (rest_member x xs a m)) in
    λ i. if same x (first_member x xs) i then x ∷ rest i else rest i

-- what fails a weaker test before
filter_through : {A : Type 0} (p weak : A → Bool) → ((x : A) → weak x ≡ false → p x ≡ false) → (xs : List A) → filter p (filter weak xs) ≡ filter p xs
filter_through p weak fails [] = refl
filter_through {A} p weak fails (x ∷ xs) =
    let rest = filter_through p weak fails xs in
    elim (cases_Bool (weak x)) [
      | inl keeps ↦ rw keeps (ap (λ (ys : List A). if p x then x ∷ ys else ys) rest)
      | inr drops ↦ rw (drops, fails x drops) rest
    ]

-- ---- grants, among some of the sites

-- the sites of one list are among those of the other, of which each has its own addresses
record AreSome (part all : List Site) : Type 0 where
  inside : (s : Site) → Contains part s → Contains all s
  distinct : AreDistinct all
  apart : AreServedApart all

distinct_part : (part all : List Site) → AreSome part all → AreDistinct part
distinct_part part all some addr a b m n h k = some.distinct addr a b (some.inside a m) (some.inside b n) h k

apart_part : (part all : List Site) → AreSome part all → AreServedApart part
apart_part part all some addr a b m n h = some.apart addr a b (some.inside a m) (some.inside b n) h

-- the ends of what a site serves are the same
served_same : (part all : List Site) → AreSome part all → (s : Site) → Contains part s → (addr : Address) → serves s addr ≡ true → end_at part addr ≡ end_at all addr
served_same part all some s here addr served =
    let there = some.inside s here in
    elim (served_cases s addr served) [
      | inl own ↦ own_end part (distinct_part part all some) addr s here own ∙ sym (own_end all some.distinct addr s there own)
      | inr beyond ↦ beyond_end part (apart_part part all some) addr s here beyond ∙ sym (beyond_end all some.apart addr s there beyond)
    ]

-- the ends of a set of addresses are the same
abbrev AreEndsSame : List Site → List Site → (Address → Bool) → Type 0
AreEndsSame part all target = (addr : Address) → target addr ≡ true → end_at part addr ≡ end_at all addr

into_same : (policy : Option Policy) (part all : List Site) (target : Address → Bool) (s : End) → AreEndsSame part all target → reaches_into policy part target s ≡ reaches_into policy all target s
into_same policy part all target s same = λ i. some_below (2 ^ 8) (λ proto. some_below (2 ^ 16) (λ port. some_address (λ addr. flow addr proto port i)))
  where
    flow : (addr : Address) (proto port : ℕ) → (target addr && grants policy s (end_at part addr) proto port) ≡ (target addr && grants policy s (end_at all addr) proto port)
    flow addr proto port = elim (cases_Bool (target addr)) [
      | inl hit ↦ ap (λ (e : End). target addr && grants policy s e proto port) (same addr hit)
      | inr miss ↦ and_left (target addr) (grants policy s (end_at part addr) proto port) miss ∙ sym (and_left (target addr) (grants policy s (end_at all addr) proto port) miss)
    ]

-- some flow from one of the site's addresses into the set is granted
abbrev sends_to : Option Policy → List Site → (Address → Bool) → Site → Bool
sends_to policy sites target a = list_any (λ x. reaches_into policy sites target (end_at sites x)) (site_addresses a)

sent_same : (policy : Option Policy) (part all : List Site) (target : Address → Bool) (a : Site) → AreSome part all → Contains part a → AreEndsSame part all target → sends_to policy part target a ≡ sends_to policy all target a
sent_same policy part all target a some here same = λ i. from a.v4 (has_v4 a) i || (from a.v6 (has_v6 a) i || false)
  where
    from : (x : Address) → site_has x a ≡ true → reaches_into policy part target (end_at part x) ≡ reaches_into policy all target (end_at all x)
    from x has = ap (λ (e : End). reaches_into policy part target e) (served_same part all some a here x (serves_own a x has)) ∙ into_same policy part all target (end_at all x) same

reaches_same : (policy : Option Policy) (part all : List Site) (a b : Site) → AreSome part all → Contains part a → Contains part b → reaches policy part a b ≡ reaches policy all a b
reaches_same policy part all a b some here there = sent_same policy part all (serves b) a some here (served_same part all some b there)

-- ---- the machine and those that it sees

-- a live machine of what is seen, where each has its own addresses and its own id
pub record IsAtHome (w : Seen) (m : Node) : Type 0 where
  pub inside : Contains w.nodes m
  pub ascend : IsAscending (λ n. n.row.id) w.nodes
  pub distinct : AreDistinct (sites_seen w)
  pub apart : AreServedApart (sites_seen w)

-- the test by which machines stay
abbrev stays : Seen → Node → Node → Bool
stays w m q = q.row.id == m.row.id || sees w m q

self_stays : (w : Seen) (m : Node) → Contains w.nodes m → Contains (only_seen w m).nodes m
self_stays w m inside = filtered_member (stays w m) w.nodes m inside (or_left (m.row.id == m.row.id) (sees w m m) (eq-eqb m.row.id m.row.id refl))

seen_stays : (w : Seen) (m q : Node) → Contains w.nodes q → sees w m q ≡ true → Contains (only_seen w m).nodes q
seen_stays w m q inside seen = filtered_member (stays w m) w.nodes q inside (or_right (q.row.id == m.row.id) (sees w m q) seen)

site_inside : (w : Seen) (n : Node) → Contains w.nodes n → Contains (sites_seen w) n.site
site_inside w n inside = map_member (λ (z : Node). z.site) w.nodes n inside

sites_some : (w : Seen) (m : Node) → IsAtHome w m → AreSome (sites_seen (only_seen w m)) (sites_seen w)
sites_some w m home = record { inside = there; distinct = home.distinct; apart = home.apart }
  where
    there : (s : Site) → Contains (sites_seen (only_seen w m)) s → Contains (sites_seen w) s
    there s here =
        let at = mapped_member (λ (z : Node). z.site) (only_seen w m).nodes s here in
        let inside = site_inside w at.0 (filter_member (stays w m) w.nodes at.0 at.1) in
        subst (λ (z : Site). Contains (sites_seen w) z) at.2 inside

is_live : (w : Seen) (n : Node) → IsAscending (λ (z : Node). z.row.id) w.nodes → Contains w.nodes n → is_node w n ≡ true
is_live w n ascend inside = ap (λ (o : Option Node). is_some o) (row_at_is (λ (z : Node). z.row.id) w.nodes n ascend inside)

node_reaches_same : (w : Seen) (m a b : Node) → IsAtHome w m → Contains (only_seen w m).nodes a → Contains (only_seen w m).nodes b → node_reaches (only_seen w m) a b ≡ node_reaches w a b
node_reaches_same w m a b home here there =
    reaches_same w.policy (sites_seen (only_seen w m)) (sites_seen w) a.site b.site (sites_some w m home) (site_inside (only_seen w m) a here) (site_inside (only_seen w m) b there)

sees_same : (w : Seen) (m q : Node) → IsAtHome w m → Contains (only_seen w m).nodes q → sees (only_seen w m) m q ≡ sees w m q
sees_same w m q home here =
    let self = self_stays w m home.inside in
    let rising = ascending_filter (λ (z : Node). z.row.id) (stays w m) w.nodes home.ascend in
    let own : is_node (only_seen w m) m ≡ is_node w m = is_live (only_seen w m) m rising self ∙ sym (is_live w m home.ascend home.inside) in
    let other : is_node (only_seen w m) q ≡ is_node w q = is_live (only_seen w m) q rising here ∙ sym (is_live w q home.ascend (filter_member (stays w m) w.nodes q here)) in
    let to = node_reaches_same w m m q home self here in
    let from = node_reaches_same w m q m home here self in
    λ i. own i && other i && not (m.row.id == q.row.id) && (to i || from i)

-- It sees the same machines.
pub visible_same : (w : Seen) (m : Node) → IsAtHome w m → visible w m ≡ visible (only_seen w m) m
visible_same w m home =
    sym (filter_through (sees w m) (stays w m) (λ q drops. (or_parts (q.row.id == m.row.id) (sees w m q) drops).1) w.nodes)
    ∙ sym (filter_same (sees (only_seen w m) m) (sees w m) (only_seen w m).nodes (λ q here. sees_same w m q home here))

granted_same : (w : Seen) (m : Node) (target : Address → Bool) → IsAtHome w m → AreEndsSame (sites_seen (only_seen w m)) (sites_seen w) target → granted_into w m target ≡ granted_into (only_seen w m) m target
granted_same w m target home same =
    sym (sent_same w.policy (sites_seen (only_seen w m)) (sites_seen w) target m.site (sites_some w m home) (site_inside (only_seen w m) m (self_stays w m home.inside)) same)

-- of a peer that it sees: the ends of what this serves, of a route of it, and of the internet where it is an exit node
served_ends : (w : Seen) (m p : Node) → IsAtHome w m → Contains (visible w m) p → AreEndsSame (sites_seen (only_seen w m)) (sites_seen w) (serves p.site)
served_ends w m p home inside =
    let here = seen_stays w m p (filter_member (sees w m) w.nodes p inside) (filtered_passes (sees w m) w.nodes p inside) in
    served_same (sites_seen (only_seen w m)) (sites_seen w) (sites_some w m home) p.site (site_inside (only_seen w m) p here)

route_ends : (w : Seen) (m p : Node) (r : Block) → IsAtHome w m → Contains (visible w m) p → Contains p.site.approved r → AreEndsSame (sites_seen (only_seen w m)) (sites_seen w) (holds r)
route_ends w m p r home inside among addr hit =
    let routed : some_holds p.site.approved addr ≡ true = list_any_is (λ q. holds q addr) p.site.approved r among hit in
    served_ends w m p home inside addr (serves_more p.site addr (or_left (some_holds p.site.approved addr) (p.site.exit && is_internet addr) routed))

exit_ends : (w : Seen) (m p : Node) → IsAtHome w m → Contains (visible w m) p → p.site.exit ≡ true → AreEndsSame (sites_seen (only_seen w m)) (sites_seen w) is_internet
exit_ends w m p home inside exit addr hit =
    let public : (p.site.exit && is_internet addr) ≡ true = and_from p.site.exit (is_internet addr) exit hit in
    served_ends w m p home inside addr (serves_more p.site addr (or_right (some_holds p.site.approved addr) (p.site.exit && is_internet addr) public))

routes_same : (w : Seen) (m : Node) (among : List Node) (p : Node) → IsAtHome w m → Contains (visible w m) p → shown_routes w m among p ≡ shown_routes (only_seen w m) m among p
routes_same w m among p home inside =
    filter_same (is_shown w m among p) (is_shown (only_seen w m) m among p) p.site.approved
    (λ r there. ap (λ (b : Bool). b && is_choice (choice among r) p) (granted_same w m (holds r) home (route_ends w m p r home inside there)))

exits_same : (w : Seen) (m p : Node) → IsAtHome w m → Contains (visible w m) p → (p.site.exit && granted_into w m is_internet) ≡ (p.site.exit && granted_into (only_seen w m) m is_internet)
exits_same w m p home inside = elim (cases_Bool p.site.exit) [
  | inl exit ↦ ap (λ (b : Bool). p.site.exit && b) (granted_same w m is_internet home (exit_ends w m p home inside exit))
  | inr none ↦ and_left p.site.exit (granted_into w m is_internet) none ∙ sym (and_left p.site.exit (granted_into (only_seen w m) m is_internet) none)
]

-- And is shown them the same.
pub shown_same : (w : Seen) (m : Node) (among : List Node) (p : Node) → IsAtHome w m → Contains (visible w m) p → shown w m among p ≡ shown (only_seen w m) m among p
shown_same w m among p home inside =
    let routes = routes_same w m among p home inside in
    let exits = exits_same w m p home inside in
    λ i. node_of w.settings.base_domain (own_addresses p.row ++ routes i ++ exits_if (exits i)) p.online p.row
