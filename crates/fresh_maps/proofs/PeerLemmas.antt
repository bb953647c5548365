-- The peers of a map, gathered from the live machines.
use Rattle.std.proofs.Common.{◌≡◌, ◌<◌, ◌+◌, ◌++◌, ◌==◌, ℕ, true, List, [], ◌∷◌, inl, inr, refl, ap, get_or, length, subst, sym, take, ◌∙◌}
use Rattle.std.specs.Prelude.{Contains, Some, filter, flat_map, map, slice_get}
use Rattle.std.proofs.lemmas.Bool.{cases_Bool}
use Rattle.std.proofs.lemmas.List.{map-append, take_more}
use Rattle.net_rows.proofs.Members.{find_member, first_member, rest_member}
use Rattle.net_rows.proofs.RowAt.{row_at_is}
use Rattle.policy_sites.specs.declared.site.Site.{Site}
use Rattle.std.proofs.lemmas.Option.{slice_get-get_or}
use Rattle.policy_eval.proofs.CoverLemmas.{get_member}
use Rattle.peer_view.specs.Seen.{IsSoundSeen, Node, Seen, node_with, sees, sites_seen, visible}
use Rattle.fresh_maps.specs.Fresh.{node_seen}

-- a live machine is that of its site's id
pub own_node : (w : Seen) → IsSoundSeen w → (n : Node) → Contains w.nodes n → node_with w n.site.id ≡ Some n
own_node w sound n inside =
    ap (λ (k : ℕ). node_with w k) (sound.sites n inside) ∙ row_at_is (λ (z : Node). z.row.id) w.nodes n sound.nodes inside

-- one that an id finds is there
pub node_inside : (w : Seen) (k : ℕ) (n : Node) → node_with w k ≡ Some n → Contains w.nodes n
node_inside w k n e = (find_member (λ (z : Node). z.row.id == k) w.nodes n e).0

-- site by site, those that are seen
gathered : (w : Seen) (v : Node) (ns : List Node) → ((n : Node) → Contains ns n → node_with w n.site.id ≡ Some n)
    → flat_map (λ (s : Site). node_seen w v (node_with w s.id)) (map (λ (n : Node). n.site) ns) ≡ filter (sees w v) ns
gathered w v [] found = refl
gathered w v (n ∷ ns) found =
    let rest = gathered w v ns (λ z inside. found z (rest_member n ns z inside)) in
    let here : node_seen w v (node_with w n.site.id) ≡ node_seen w v (Some n) = ap (node_seen w v) (found n (first_member n ns)) in
    let more = flat_map (λ (s : Site). node_seen w v (node_with w s.id)) (map (λ (z : Node). z.site) ns) in
    ap (λ (nodes : List Node). nodes ++ more) here ∙ (ap (λ (nodes : List Node). node_seen w v (Some n) ++ nodes) rest ∙
    elim (cases_Bool (sees w v n)) [
      | inl seen ↦ rw seen refl
      | inr not ↦ rw not refl
    ])

-- They are the machines that it sees.
pub gathered_visible : (w : Seen) (v : Node) → IsSoundSeen w → flat_map (λ (s : Site). node_seen w v (node_with w s.id)) (sites_seen w) ≡ visible w v
gathered_visible w v sound = gathered w v w.nodes (own_node w sound)

-- who is seen is there
pub seen_node : (w : Seen) (v p : Node) → sees w v p ≡ true → p ∷ [] ≡ node_seen w v (Some p)
seen_node w v p is = rw is refl

-- each of those that were gathered is visible
pub item_visible : (w : Seen) (v : Node) (made items : List Node) (i : ℕ) (p : Node) → made ≡ visible w v → items ≡ made → i < length items → p ≡ get_or items i p → Contains (visible w v) p
item_visible w v made items i p same all lt is =
    let there : slice_get items i ≡ Some p = slice_get-get_or items i p lt ∙ ap (λ (z : Node). Some z) (sym is) in
    subst (λ (ns : List Node). Contains ns p) (all ∙ same) (get_member items i p there)

-- one more of a list whose elements are mapped
pub mapped_more : {A B : Type 0} (f : A → B) (xs : List A) (i : ℕ) (out new : List B) (x : A) (y : B) → i < length xs → x ≡ get_or xs i x
    → out ≡ map f (take i xs) → y ≡ f x → new ≡ out ++ y ∷ [] → new ≡ map f (take (i + 1) xs)
mapped_more {A} f xs i out new x y lt is told made put =
    let cut : take (i + 1) xs ≡ take i xs ++ x ∷ [] = take_more xs i x lt ∙ ap (λ (z : A). take i xs ++ z ∷ []) (sym is) in
    put ∙ ((λ k. told k ++ made k ∷ []) ∙ (sym (map-append f (take i xs) (x ∷ [])) ∙ ap (map f) (sym cut)))
