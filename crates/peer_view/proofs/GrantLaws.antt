-- Whether a viewer is granted a flow to where no machine has an address goes by the rules.
use Rattle.std.proofs.Common.{◌≡◌, ◌&&◌, ◌||◌, ℕ, Bool, true, false, List, refl, ap, sym, subst, ◌∙◌}
use Rattle.std.specs.Prelude.{Contains, Option, Some, None, slice_index_or}
use Rattle.std.specs.List.{list_any}
use Rattle.std.proofs.lemmas.Bool.{and_from, and_parts}
use Rattle.tail_base.proofs.Bools.{same_tests}
use Rattle.net_addr.specs.Bits.{Address, Block}
use Rattle.net_addr.specs.Blocks.{holds}
use Rattle.net_addr.proofs.SearchLemmas.{address_finds, address_found}
use Rattle.net_rows.specs.Shelf.{BelongsAt, IsAscending, StandsAt}
use Rattle.net_rows.specs.declared.rows.Rows.{Rows}
use Rattle.net_rows.proofs.Members.{list_any_is}
use Rattle.net_rows.proofs.RowAt.{row_at_is}
use Rattle.settings.specs.declared.fields.SettingsFields.{SettingsFields}
use Rattle.policy_rows.specs.Internet.{is_internet}
use Rattle.policy_rows.specs.declared.dest.Dest.{Dest}
use Rattle.policy_rows.specs.declared.group.Group.{Group}
use Rattle.policy_rows.specs.declared.policy.Policy.{Policy}
use Rattle.policy_rows.specs.declared.rule.Rule.{Rule}
use Rattle.range_sets.specs.Sets.{some_holds}
use Rattle.policy_sites.specs.Beyond.{covers_free, covers_into}
use Rattle.policy_sites.specs.ByRule.{site_addresses, site_end, site_sends_into}
use Rattle.policy_sites.specs.Covers.{covers, dest_covers}
use Rattle.policy_sites.specs.Ends.{end_at}
use Rattle.policy_eval.specs.Expansion.{Expansion}
use Rattle.policy_sites.specs.Grants.{groups_of, rules_of, some_source}
use Rattle.policy_sites.specs.Reach.{AreSoundRules, entry_reaches, reaches_into, rule_reaches}
use Rattle.policy_sites.specs.Sites.{AreServedApart, AreDistinct, site_has}
use Rattle.policy_sites.specs.declared.end.End.{End}
use Rattle.policy_sites.specs.declared.site.Site.{Site}
use Rattle.policy_sites.proofs.EndLemmas.{beyond_end, own_end}
use Rattle.policy_sites.proofs.OwnLemmas.{has_v4, has_v6}
use Rattle.policy_sites.proofs.ReachLemmas.{reach_is}
use Rattle.peer_view.specs.Seen.{Node, Seen, seen_of, sites_seen}
use Rattle.peer_view.specs.Shown.{IsUnheld, granted_into}
use Rattle.peer_view.specs.Worlds.{IsWorld}
use Rattle.peer_view.proofs.AnyLemmas.{any_pair, any_same, either_and}
use Rattle.peer_view.proofs.ListLemmas.{map_member}
use Rattle.peer_view.proofs.ReachLaws.{free_dest}
use Rattle.peer_view.proofs.WorldLaws.{any_site, expansion_is}

-- an entry that covers an end of the set covers by address alone
entry_into : (groups : List Group) (sites : List Site) (target : Address → Bool) (s : End) (entry : Dest) → IsUnheld sites target → entry_reaches groups sites target s entry ≡ covers_into target entry.to
entry_into groups sites target s entry free = same_tests (entry_reaches groups sites target s entry) (covers_into target entry.to) to from
  where
    there : Address → Bool
    there addr = target addr && dest_covers groups entry.to s (end_at sites addr)

    alone : Address → Bool
    alone addr = target addr && covers_free entry.to addr

    moved : (addr : Address) → target addr ≡ true → dest_covers groups entry.to s (end_at sites addr) ≡ covers_free entry.to addr
    moved addr hit = ap (λ (e : End). dest_covers groups entry.to s e) (free addr hit) ∙ free_dest groups entry.to s addr

    to : entry_reaches groups sites target s entry ≡ true → covers_into target entry.to ≡ true
    to h =
        let found = address_finds there h in
        let p = and_parts (target found.0) (dest_covers groups entry.to s (end_at sites found.0)) found.2 in
        address_found alone found.0 found.1 (and_from (target found.0) (covers_free entry.to found.0) p.0 (sym (moved found.0 p.0) ∙ p.1))

    from : covers_into target entry.to ≡ true → entry_reaches groups sites target s entry ≡ true
    from h =
        let found = address_finds alone h in
        let p = and_parts (target found.0) (covers_free entry.to found.0) found.2 in
        address_found there found.0 found.1 (and_from (target found.0) (dest_covers groups entry.to s (end_at sites found.0)) p.0 (moved found.0 p.0 ∙ p.1))

-- a destination of the rule covers some address of the set
abbrev goes_into : (Address → Bool) → Rule → Bool
goes_into target r = list_any (λ (entry : Dest). covers_into target entry.to) r.dests

-- one of the machine's addresses may send by the rule
abbrev sends_at : List Group → Site → Address → Rule → Bool
sends_at groups a x r = some_source groups r (site_end a x)

one_into : (policy : Option Policy) (sites : List Site) (a : Site) (target : Address → Bool) (x : Address) → AreSoundRules (rules_of policy) → AreDistinct sites → Contains sites a → IsUnheld sites target → site_has x a ≡ true
    → reaches_into policy sites target (end_at sites x) ≡ list_any (λ r. sends_at (groups_of policy) a x r && goes_into target r) (rules_of policy)
one_into policy sites a target x sound distinct inside free has =
    let groups = groups_of policy in
    let s = site_end a x in
    ap (λ (e : End). reaches_into policy sites target e) (own_end sites distinct x a inside has)
    ∙ (reach_is policy sites target s sound
    ∙ any_same (rule_reaches groups sites target s) (λ r. sends_at groups a x r && goes_into target r) (rules_of policy)
    (λ r. ap (λ (m : Bool). sends_at groups a x r && m) (any_same (entry_reaches groups sites target s) (λ entry. covers_into target entry.to) r.dests (λ entry. entry_into groups sites target s entry free))))

-- both of a machine's addresses, rule by rule
both_into : (groups : List Group) (rules : List Rule) (a : Site) (target : Address → Bool)
    → (list_any (λ r. sends_at groups a a.v4 r && goes_into target r) rules || (list_any (λ r. sends_at groups a a.v6 r && goes_into target r) rules || false)) ≡ site_sends_into groups rules target a
both_into groups rules a target =
    let p : Rule → Bool = λ r. sends_at groups a a.v4 r in
    let q : Rule → Bool = λ r. sends_at groups a a.v6 r in
    let g : Rule → Bool = λ r. goes_into target r in
    any_pair (λ r. p r && g r) (λ r. q r && g r) rules
    ∙ any_same (λ r. (p r && g r) || ((q r && g r) || false)) (λ r. list_any (λ s. list_any (λ x. covers groups s (site_end a x)) (site_addresses a)) r.sources && g r) rules
    (λ r. either_and (p r) (q r) (g r) ∙ ap (λ m. m && g r) (any_pair (λ s. covers groups s (site_end a a.v4)) (λ s. covers groups s (site_end a a.v6)) r.sources))

granted_is : (w : Seen) (n : Node) (target : Address → Bool) → AreSoundRules (rules_of w.policy) → AreDistinct (sites_seen w) → Contains (sites_seen w) n.site → IsUnheld (sites_seen w) target
    → granted_into w n target ≡ site_sends_into (groups_of w.policy) (rules_of w.policy) target n.site
granted_is w n target sound distinct inside free =
    let a = n.site in
    let first = one_into w.policy (sites_seen w) a target a.v4 sound distinct inside free (has_v4 a) in
    let second = one_into w.policy (sites_seen w) a target a.v6 sound distinct inside free (has_v6 a) in
    (λ i. first i || (second i || false)) ∙ both_into (groups_of w.policy) (rules_of w.policy) a target

-- what stands at the place of a node's site is its site
site_there : (sites : List Site) (site : Site) (place : ℕ) → IsAscending (λ (s : Site). s.id) sites → Contains sites site → StandsAt (λ (s : Site). s.id) sites site.id place → slice_index_or sites place any_site ≡ site
site_there sites site place ascend inside at =
    let both : Some (slice_index_or sites place any_site) ≡ Some site = sym (at.is any_site) ∙ row_at_is (λ (s : Site). s.id) sites site ascend inside in
    cc

pub site_missing_never : (sites : List Site) (site : Site) (place : ℕ) → IsAscending (λ (s : Site). s.id) sites → Contains sites site → BelongsAt (λ (s : Site). s.id) sites site.id place → ⊥
site_missing_never sites site place ascend inside at =
    let bad : None ≡ Some site = sym at.none ∙ row_at_is (λ (s : Site). s.id) sites site ascend inside in
    cc

-- Whether a viewer is granted a flow, by the rules that were expanded.
pub world_granted : (settings : SettingsFields) (policy : Option Policy) (rows : Rows) (live online : List ℕ) (made : Expansion) (w : Seen) → IsWorld made policy rows live
    → seen_of settings policy rows live online ≡ w → (n : Node) (target : Address → Bool) (place : ℕ) → Contains w.nodes n → IsUnheld (sites_seen w) target
    → AreSoundRules made.rules → AreDistinct made.sites → IsAscending (λ (s : Site). s.id) made.sites → StandsAt (λ (s : Site). s.id) made.sites n.site.id place
    → site_sends_into made.groups made.rules target (slice_index_or made.sites place any_site) ≡ granted_into w n target
world_granted settings policy rows live online made w world seen n target place here free =
    subst
    (λ (x : Expansion). AreSoundRules x.rules → AreDistinct x.sites → IsAscending (λ (s : Site). s.id) x.sites → StandsAt (λ (s : Site). s.id) x.sites n.site.id place
    → site_sends_into x.groups x.rules target (slice_index_or x.sites place any_site) ≡ granted_into w n target)
    (sym (expansion_is settings policy rows live online made w world seen))
    (λ sound distinct ascend at.
    let inside : Contains (sites_seen w) n.site = map_member (λ (z : Node). z.site) w.nodes n here in
    ap (site_sends_into (groups_of w.policy) (rules_of w.policy) target) (site_there (sites_seen w) n.site place ascend inside at) ∙ sym (granted_is w n target sound distinct inside free))

-- no machine has an address of an approved route, nor one of the internet that an exit node serves
pub route_free : (sites : List Site) (p : Site) (route : Block) → AreServedApart sites → Contains sites p → Contains p.approved route → IsUnheld sites (holds route)
route_free sites p route apart inside among addr hit =
    beyond_end sites apart addr p inside (ap (λ (b : Bool). b || (p.exit && is_internet addr)) (list_any_is (λ r. holds r addr) p.approved route among hit))

pub exit_free : (sites : List Site) (p : Site) → AreServedApart sites → Contains sites p → p.exit ≡ true → IsUnheld sites is_internet
exit_free sites p apart inside exit addr hit =
    beyond_end sites apart addr p inside ((λ i. some_holds p.approved addr || (exit i && hit i)) ∙ or_true (some_holds p.approved addr))
  where
    or_true : (b : Bool) → (b || (true && true)) ≡ true
    or_true true = refl
    or_true false = refl
