-- A route goes through a machine that has routes, so it is sought among these alone.
use Rattle.std.proofs.Common.{◌≡◌, ◌&&◌, ◌++◌, ℕ, Bool, true, false, List, [], ◌∷◌, arith, refl, ap, subst, ◌∙◌, inl, inr}
use Rattle.std.specs.Prelude.{Contains, filter, length, nat_lt}
use Rattle.std.specs.List.{find, list_any}
use Rattle.std.proofs.lemmas.Bool.{and_parts, both_ways, cases_Bool, false_from_ne_true, lt-ltb}
use Rattle.net_addr.specs.Bits.{Block}
use Rattle.net_addr.specs.Blocks.{holds}
use Rattle.net_rows.proofs.Members.{list_any_found, list_any_is}
use Rattle.policy_rows.specs.Internet.{is_internet}
use Rattle.policy_sites.specs.Sites.{AreServedApart}
use Rattle.policy_sites.specs.Exits.{has_route}
use Rattle.policy_sites.specs.Serving.{exits_if}
use Rattle.peer_view.specs.Nodes.{own_addresses}
use Rattle.peer_view.specs.Routers.{has_routes, routers_of}
use Rattle.peer_view.specs.Seen.{Node, Seen, sees, sites_seen, visible}
use Rattle.peer_view.specs.Shown.{IsUnheld, choice, granted_into, is_choice, offers, or_else, shown_exits, shown_routes}
use Rattle.peer_view.specs.declared.routers.Routers.{Routers}
use Rattle.peer_view.proofs.GrantLaws.{exit_free}
use Rattle.peer_view.proofs.ListLemmas.{filter_member, map_member}

-- what passes one test passes another, so the first that does is the first of those that pass the other
find_filtered : {A : Type 0} (test wider : A → Bool) (xs : List A) → ((x : A) → test x ≡ true → wider x ≡ true) → find test (filter wider xs) ≡ find test xs
find_filtered test wider [] also = refl
find_filtered test wider (x ∷ xs) also =
    elim (cases_Bool (wider x)) [
      | inl passes ↦ elim (cases_Bool (test x)) [
        | inl is ↦ rw (passes, is) refl
        | inr not ↦ rw (passes, not) (find_filtered test wider xs also)
      ]
      | inr fails ↦
          let not : test x ≡ false = false_from_ne_true (test x) (λ is. both_ways (wider x) fails (also x is)) in
          rw (fails, not) (find_filtered test wider xs also)
    ]

some_routes : (routes : List Block) (r : Block) → has_route routes r ≡ true → nat_lt 0 (length routes) ≡ true
some_routes [] r has = absurd (cc)
some_routes (q ∷ routes) r has = lt-ltb 0 (length (q ∷ routes)) (omega arith)

choice_routers : (nodes : List Node) (r : Block) → choice (filter has_routes nodes) r ≡ choice nodes r
choice_routers nodes r =
    let online = find_filtered (λ q. offers r q && q.online) has_routes nodes (λ q h. some_routes q.site.approved r (and_parts (offers r q) q.online h).0) in
    let any = find_filtered (offers r) has_routes nodes (λ q h. some_routes q.site.approved r h) in
    λ i. or_else (online i) (any i)

routes_same : (w : Seen) (viewer : Node) (nodes : List Node) (p : Node) → shown_routes w viewer (filter has_routes nodes) p ≡ shown_routes w viewer nodes p
routes_same w viewer nodes p = λ i. filter (λ r. granted_into w viewer (holds r) && is_choice (choice_routers nodes r i) p) p.site.approved

-- one that the viewer sees is an exit node where it is one itself
exits_same : (w : Seen) (viewer p : Node) → Contains (visible w viewer) p → (p.site.exit && (list_any (λ (q : Node). q.site.exit) (visible w viewer) && granted_into w viewer is_internet)) ≡ (p.site.exit && granted_into w viewer is_internet)
exits_same w viewer p seen =
    elim (cases_Bool p.site.exit) [
      | inl is ↦ let some = list_any_is (λ (q : Node). q.site.exit) (visible w viewer) p seen is in ap (λ (b : Bool). p.site.exit && (b && granted_into w viewer is_internet)) some
      | inr not ↦ rw not refl
    ]

-- the prefixes through a peer, by the routers of the viewer's map
pub prefixes_by_routers : (w : Seen) (viewer p : Node) (routers : Routers) → routers ≡ routers_of w viewer → Contains (visible w viewer) p → (machines : List Node) → machines ≡ routers.machines → (routes : List Block) (exit : Bool)
    → routes ≡ shown_routes w viewer machines p → exit ≡ (p.site.exit && routers.exits)
    → own_addresses p.row ++ routes ++ exits_if exit ≡ own_addresses p.row ++ shown_routes w viewer (visible w viewer) p ++ shown_exits w viewer p
prefixes_by_routers w viewer p routers are seen machines ms routes exit by last =
    let all : routes ≡ shown_routes w viewer (visible w viewer) p =
    by ∙ (ap (λ (ns : List Node). shown_routes w viewer ns p) ms ∙ (ap (λ (x : Routers). shown_routes w viewer x.machines p) are ∙ routes_same w viewer (visible w viewer) p)) in
    let both : exit ≡ (p.site.exit && granted_into w viewer is_internet) = last ∙ (ap (λ (x : Routers). p.site.exit && x.exits) are ∙ exits_same w viewer p seen) in
    λ i. own_addresses p.row ++ all i ++ exits_if (both i)

-- no machine has an address of the internet where the viewer sees an exit node
pub seen_exit_free : (w : Seen) (viewer : Node) (machines : List Node) → machines ≡ visible w viewer → AreServedApart (sites_seen w) → list_any (λ (q : Node). q.site.exit) machines ≡ true → IsUnheld (sites_seen w) is_internet
seen_exit_free w viewer machines are apart some =
    let at = list_any_found (λ (q : Node). q.site.exit) machines some in
    let seen : Contains (visible w viewer) at.0 = subst (λ (ns : List Node). Contains ns at.0) are at.1 in
    exit_free (sites_seen w) at.0.site apart (map_member (λ (z : Node). z.site) w.nodes at.0 (filter_member (sees w viewer) w.nodes at.0 seen)) at.2

-- who is seen is a live machine
pub seen_inside : (w : Seen) (viewer p : Node) → Contains (visible w viewer) p → Contains w.nodes p
seen_inside w viewer p seen = filter_member (sees w viewer) w.nodes p seen
