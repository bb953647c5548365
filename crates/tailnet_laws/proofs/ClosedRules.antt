-- Under a policy that has rules, but none of them, nothing is reached, and nobody is seen.
use Rattle.std.proofs.Common.{◌≡◌, ◌∙◌, ◌^◌, ◌&&◌, ◌||◌, ◌==◌, ℕ, Bool, true, false, not, List, [], ◌∷◌, map, Option, Some, refl, ap}
use Rattle.std.specs.Prelude.{filter}
use Rattle.std.specs.List.{list_any}
use Rattle.std.proofs.lemmas.Bool.{both_ways, false_from_ne_true}
use Rattle.tail_base.specs.Searches.{some_below}
use Rattle.tail_base.proofs.Searches.{some_finds}
use Rattle.net_addr.specs.Bits.{Address}
use Rattle.policy_rows.specs.declared.policy.Policy.{Policy}
use Rattle.policy_rows.specs.declared.rule.Rule.{Rule}
use Rattle.policy_sites.specs.ByRule.{site_addresses}
use Rattle.policy_sites.specs.Ends.{end_at}
use Rattle.policy_sites.specs.Grants.{grants, rules_or_open, some_rule_grants}
use Rattle.policy_sites.specs.Reach.{reaches_into}
use Rattle.policy_sites.specs.Sites.{serves}
use Rattle.policy_sites.specs.declared.end.End.{End}
use Rattle.policy_sites.specs.declared.site.Site.{Site}
use Rattle.policy_sites.proofs.IntoLemmas.{some_none}
use Rattle.peer_view.specs.Reaches.{reaches}
use Rattle.peer_view.specs.Seen.{Node, Seen, is_node, node_reaches, sees, sites_seen}
use Rattle.peer_view.specs.Shown.{shown}
use Rattle.fresh_maps.specs.Fresh.{fresh}
use Rattle.desk_state.specs.State.{State}
use Rattle.machine_asks.specs.OneMap.{fresh_for, node_in, world_of}
use Rattle.net_rows.specs.declared.machine.Machine.{Machine}

-- ---- searches for what nothing passes

none_below : (n : ℕ) (test : ℕ → Bool) → ((y : ℕ) → test y ≡ false) → some_below n test ≡ false
none_below n test fails = false_from_ne_true (some_below n test) (λ h. let found = some_finds n test h in both_ways (test found.0) (fails found.0) found.2)

none_any : {A : Type 0} (test : A → Bool) (xs : List A) → ((x : A) → test x ≡ false) → list_any test xs ≡ false
none_any test [] fails = refl
none_any test (x ∷ xs) fails = rw (fails x) (none_any test xs fails)

none_left : {A : Type 0} (test : A → Bool) (xs : List A) → ((x : A) → test x ≡ false) → filter test xs ≡ []
none_left test [] fails = refl
none_left test (x ∷ xs) fails = rw (fails x) (none_left test xs fails)

and_none : (a b : Bool) → b ≡ false → (a && b) ≡ false
and_none true b h = h
and_none false b h = refl

none_of_two : (a b : Bool) → a ≡ false → b ≡ false → (a || b) ≡ false
none_of_two true b p q = p
none_of_two false b p q = q

-- ---- closed policies

module _ (policy : Policy) (closed : policy.rules ≡ Some []) where
  none_granted : (s d : End) (proto port : ℕ) → grants (Some policy) s d proto port ≡ false
  none_granted s d proto port = ap (λ (rules : Option (List Rule)). some_rule_grants policy.groups (rules_or_open rules) s d proto port) closed

  none_into : (sites : List Site) (target : Address → Bool) (s : End) → reaches_into (Some policy) sites target s ≡ false
  none_into sites target s =
      none_below (2 ^ 8) _ (λ proto.
      none_below (2 ^ 16) _ (λ port.
      some_none (λ addr. target addr && grants (Some policy) s (end_at sites addr) proto port) (λ addr.
      and_none (target addr) (grants (Some policy) s (end_at sites addr) proto port) (none_granted s (end_at sites addr) proto port))))

  none_reached : (sites : List Site) (a b : Site) → reaches (Some policy) sites a b ≡ false
  none_reached sites a b = none_any (λ x. reaches_into (Some policy) sites (serves b) (end_at sites x)) (site_addresses a) (λ x. none_into sites (serves b) (end_at sites x))

  node_unreached : (w : Seen) (m p : Node) → w.policy ≡ Some policy → node_reaches w m p ≡ false
  node_unreached w m p is = ap (λ (o : Option Policy). reaches o (sites_seen w) m.site p.site) is ∙ none_reached (sites_seen w) m.site p.site

  pub none_seen : (w : Seen) (m p : Node) → w.policy ≡ Some policy → sees w m p ≡ false
  none_seen w m p is =
      and_none (is_node w m && is_node w p && not (m.row.id == p.row.id)) (node_reaches w m p || node_reaches w p m)
      (none_of_two (node_reaches w m p) (node_reaches w p m) (node_unreached w m p is) (node_unreached w p m is))

  no_peers : (w : Seen) (m : Node) → w.policy ≡ Some policy → (fresh w m).peers ≡ []
  no_peers w m is = ap (λ (ps : List Node). map (shown w m ps) ps) (none_left (sees w m) w.nodes (λ p. none_seen w m p is))

  -- its filter is that of no rules
  no_filter : (w : Seen) (m : Node) → w.policy ≡ Some policy → (fresh w m).filter ≡ []
  no_filter w m is =
      ap (λ (o : Option Policy). (fresh (record w { policy = o }) m).filter) is
      ∙ ap (λ (rules : Option (List Rule)). (fresh (record w { policy = Some (record policy { rules = rules }) }) m).filter) closed

  pub closed_peers : (s : State) (m : Machine) → s.policy ≡ Some policy → (fresh_for s m).peers ≡ []
  closed_peers s m is = no_peers (world_of s) (node_in s m) is

  pub closed_filter : (s : State) (m : Machine) → s.policy ≡ Some policy → (fresh_for s m).filter ≡ []
  closed_filter s m is = no_filter (world_of s) (node_in s m) is
