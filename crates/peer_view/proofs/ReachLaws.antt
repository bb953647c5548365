-- Reach is local, and goes by rules.
use Rattle.std.proofs.Common.{◌≡◌, ◌<◌, ◌&&◌, ◌||◌, Bool, true, false, List, refl, ap, sym, ◌∙◌, inl, inr}
use Rattle.std.specs.Prelude.{Contains, Option}
use Rattle.std.specs.List.{list_any}
use Rattle.std.proofs.lemmas.Bool.{and_from, and_parts, or_cases, or_left, or_right}
use Rattle.tail_base.proofs.Bools.{same_tests}
use Rattle.net_addr.specs.Bits.{Address, family_size}
use Rattle.net_addr.proofs.SearchLemmas.{address_finds, address_found}
use Rattle.policy_rows.specs.declared.dest.Dest.{Dest}
use Rattle.policy_rows.specs.declared.group.Group.{Group}
use Rattle.policy_rows.specs.declared.policy.Policy.{Policy}
use Rattle.policy_rows.specs.declared.rule.Rule.{Rule}
use Rattle.policy_rows.specs.declared.selector.Selector.{Selector}
use Rattle.policy_rows.specs.declared.selector.Selector.TheVariants as sel
use Rattle.policy_sites.specs.Beyond.{covers_free, covers_into}
use Rattle.policy_sites.specs.Covers.{covers, dest_covers, is_own, is_own_devices}
use Rattle.policy_sites.specs.Ends.{end_at, free_end, holder_of}
use Rattle.policy_sites.specs.Grants.{groups_of, rules_of, some_source}
use Rattle.policy_sites.specs.Reach.{AreSoundRules, entry_reaches, reaches_into, rule_reaches}
use Rattle.policy_sites.specs.Sites.{AreServedApart, AreDistinct, serves, serves_beyond, site_has}
use Rattle.policy_sites.specs.declared.end.End.{End}
use Rattle.policy_sites.specs.declared.site.Site.{Site}
use Rattle.policy_sites.proofs.EndLemmas.{beyond_end, joins_nobody, own_end, served_cases, serves_more, serves_own}
use Rattle.policy_sites.proofs.OwnLemmas.{has_v4, has_v6, own_two}
use Rattle.policy_sites.proofs.ReachLemmas.{reach_is}
use Rattle.policy_sites.specs.ByRule.{IsSoundSite, covers_served, covers_site, site_end, joins_own_by, site_addresses, sends, site_reaches, takes}
use Rattle.peer_view.specs.Reaches.{reaches}
use Rattle.peer_view.proofs.AnyLemmas.{any_and, any_or, any_pair, any_same, either_and, either_or, or_none}

-- the destination covers one of the machine's own ends
abbrev covers_own : List Group → Site → End → Dest → Bool
covers_own groups b s entry = list_any (λ y. dest_covers groups entry.to s (site_end b y)) (site_addresses b)

-- the machine at a site of the list
record IsSiteOf (sites : List Site) (b : Site) : Type 0 where
  distinct : AreDistinct sites
  apart : AreServedApart sites
  inside : Contains sites b

end_is : (sites : List Site) (b : Site) → IsSiteOf sites b → (addr : Address) → site_has addr b ≡ true → end_at sites addr ≡ site_end b addr
end_is sites b at addr has = own_end sites at.distinct addr b at.inside has

-- beside its own addresses nobody holds what a machine serves
free_is : (sites : List Site) (b : Site) → IsSiteOf sites b → (addr : Address) → serves_beyond b addr ≡ true → end_at sites addr ≡ free_end addr
free_is sites b at addr beyond = beyond_end sites at.apart addr b at.inside beyond

-- there a destination covers by itself, whoever sends
pub free_dest : (groups : List Group) (to : Selector) (s : End) (addr : Address) → dest_covers groups to s (free_end addr) ≡ covers_free to addr
free_dest groups sel.All s addr = refl
free_dest groups (sel.Net net) s addr = refl
free_dest groups (sel.User login) s addr = refl
free_dest groups (sel.Group name) s addr = refl
free_dest groups (sel.Tagged tag) s addr = refl
free_dest groups sel.Member s addr = refl
free_dest groups sel.AllTagged s addr = refl
free_dest groups sel.Internet s addr = refl
free_dest groups sel.OwnDevices s addr = joins_nobody s addr

-- an entry that covers an address of the set covers one of the two, or one beside them
abbrev covers_any : List Group → Site → End → Dest → Bool
covers_any groups b s entry = covers_own groups b s entry || covers_into (serves_beyond b) entry.to

to_own : (groups : List Group) (sites : List Site) (b : Site) (s : End) (entry : Dest) (addr : Address) → IsSiteOf sites b → site_has addr b ≡ true → dest_covers groups entry.to s (end_at sites addr) ≡ true
    → covers_own groups b s entry ≡ true
to_own groups sites b s entry addr at own h =
    let f : Address → Bool = λ y. dest_covers groups entry.to s (site_end b y) in
    let here : f addr ≡ true = ap (λ (e : End). dest_covers groups entry.to s e) (sym (end_is sites b at addr own)) ∙ h in
    elim (own_two b addr own) [
      | inl e ↦ or_left (f b.v4) (f b.v6 || false) (ap f e ∙ here)
      | inr e ↦ or_right (f b.v4) (f b.v6 || false) (or_left (f b.v6) false (ap f e ∙ here))
    ]

to_beyond : (groups : List Group) (sites : List Site) (b : Site) (s : End) (entry : Dest) (addr : Address) → addr.bits < family_size addr.v6 → IsSiteOf sites b → serves_beyond b addr ≡ true
    → dest_covers groups entry.to s (end_at sites addr) ≡ true → covers_into (serves_beyond b) entry.to ≡ true
to_beyond groups sites b s entry addr small at beyond h =
    let here : covers_free entry.to addr ≡ true = sym (free_dest groups entry.to s addr) ∙ (ap (λ (e : End). dest_covers groups entry.to s e) (sym (free_is sites b at addr beyond)) ∙ h) in
    address_found (λ y. serves_beyond b y && covers_free entry.to y) addr small (and_from (serves_beyond b addr) (covers_free entry.to addr) beyond here)

to_any : (groups : List Group) (sites : List Site) (b : Site) (s : End) (entry : Dest) → IsSiteOf sites b → entry_reaches groups sites (serves b) s entry ≡ true → covers_any groups b s entry ≡ true
to_any groups sites b s entry at h =
    let found = address_finds (λ addr. serves b addr && dest_covers groups entry.to s (end_at sites addr)) h in
    let p = and_parts (serves b found.0) (dest_covers groups entry.to s (end_at sites found.0)) found.2 in
    elim (served_cases b found.0 p.0) [
      | inl own ↦ or_left (covers_own groups b s entry) (covers_into (serves_beyond b) entry.to) (to_own groups sites b s entry found.0 at own p.1)
      | inr beyond ↦ or_right (covers_own groups b s entry) (covers_into (serves_beyond b) entry.to) (to_beyond groups sites b s entry found.0 found.1 at beyond p.1)
    ]

from_one : (groups : List Group) (sites : List Site) (b : Site) (s : End) (entry : Dest) → IsSiteOf sites b → (addr : Address) → addr.bits < family_size addr.v6 → site_has addr b ≡ true
    → dest_covers groups entry.to s (site_end b addr) ≡ true → entry_reaches groups sites (serves b) s entry ≡ true
from_one groups sites b s entry at addr small has h =
    let here : dest_covers groups entry.to s (end_at sites addr) ≡ true = ap (λ (e : End). dest_covers groups entry.to s e) (end_is sites b at addr has) ∙ h in
    address_found (λ y. serves b y && dest_covers groups entry.to s (end_at sites y)) addr small
    (and_from (serves b addr) (dest_covers groups entry.to s (end_at sites addr)) (serves_own b addr has) here)

from_own : (groups : List Group) (sites : List Site) (b : Site) (s : End) (entry : Dest) → IsSiteOf sites b → IsSoundSite b → covers_own groups b s entry ≡ true → entry_reaches groups sites (serves b) s entry ≡ true
from_own groups sites b s entry at small h =
    let f : Address → Bool = λ y. dest_covers groups entry.to s (site_end b y) in
    elim (or_cases (f b.v4) (f b.v6 || false) h) [
      | inl p ↦ from_one groups sites b s entry at b.v4 small.v4 (has_v4 b) p
      | inr q ↦ elim (or_cases (f b.v6) false q) [
        | inl p ↦ from_one groups sites b s entry at b.v6 small.v6 (has_v6 b) p
        | inr none ↦ absurd (cc)
      ]
    ]

from_beyond : (groups : List Group) (sites : List Site) (b : Site) (s : End) (entry : Dest) → IsSiteOf sites b → covers_into (serves_beyond b) entry.to ≡ true → entry_reaches groups sites (serves b) s entry ≡ true
from_beyond groups sites b s entry at h =
    let found = address_finds (λ y. serves_beyond b y && covers_free entry.to y) h in
    let p = and_parts (serves_beyond b found.0) (covers_free entry.to found.0) found.2 in
    let here : dest_covers groups entry.to s (end_at sites found.0) ≡ true =
    ap (λ (e : End). dest_covers groups entry.to s e) (free_is sites b at found.0 p.0) ∙ (free_dest groups entry.to s found.0 ∙ p.1) in
    address_found (λ y. serves b y && dest_covers groups entry.to s (end_at sites y)) found.0 found.1
    (and_from (serves b found.0) (dest_covers groups entry.to s (end_at sites found.0)) (serves_more b found.0 p.0) here)

from_any : (groups : List Group) (sites : List Site) (b : Site) (s : End) (entry : Dest) → IsSiteOf sites b → IsSoundSite b → covers_any groups b s entry ≡ true → entry_reaches groups sites (serves b) s entry ≡ true
from_any groups sites b s entry at small h =
    elim (or_cases (covers_own groups b s entry) (covers_into (serves_beyond b) entry.to) h) [
      | inl own ↦ from_own groups sites b s entry at small own
      | inr beyond ↦ from_beyond groups sites b s entry at beyond
    ]

entry_is : (groups : List Group) (sites : List Site) (b : Site) (s : End) (entry : Dest) → IsSiteOf sites b → IsSoundSite b → entry_reaches groups sites (serves b) s entry ≡ covers_any groups b s entry
entry_is groups sites b s entry at small =
    same_tests (entry_reaches groups sites (serves b) s entry) (covers_any groups b s entry) (to_any groups sites b s entry at) (from_any groups sites b s entry at small)

-- a destination covers a machine's end from another's by itself, or as `autogroup:self` by the two machines
dest_is : (groups : List Group) (to : Selector) (a b : Site) (x y : Address)
    → dest_covers groups to (site_end a x) (site_end b y) ≡ (covers groups to (site_end b y) || (is_own_devices to && is_own (holder_of a) (holder_of b)))
dest_is groups sel.All a b x y = refl
dest_is groups (sel.Net net) a b x y = or_none (covers groups (sel.Net net) (site_end b y))
dest_is groups (sel.User login) a b x y = or_none (covers groups (sel.User login) (site_end b y))
dest_is groups (sel.Group name) a b x y = or_none (covers groups (sel.Group name) (site_end b y))
dest_is groups (sel.Tagged tag) a b x y = or_none (covers groups (sel.Tagged tag) (site_end b y))
dest_is groups sel.Member a b x y = or_none (covers groups sel.Member (site_end b y))
dest_is groups sel.AllTagged a b x y = or_none (covers groups sel.AllTagged (site_end b y))
dest_is groups sel.Internet a b x y = or_none (covers groups sel.Internet (site_end b y))
dest_is groups sel.OwnDevices a b x y = refl

own_is : (groups : List Group) (entry : Dest) (a b : Site) (x : Address)
    → covers_own groups b (site_end a x) entry ≡ (covers_site groups b entry.to || (is_own_devices entry.to && is_own (holder_of a) (holder_of b)))
own_is groups entry a b x =
    let c : Bool = is_own_devices entry.to && is_own (holder_of a) (holder_of b) in
    let p : Address → Bool = λ y. covers groups entry.to (site_end b y) in
    any_same (λ y. dest_covers groups entry.to (site_end a x) (site_end b y)) (λ y. p y || c) (site_addresses b) (λ y. dest_is groups entry.to a b x y)
    ∙ either_or (p b.v4) (p b.v6) c

or_moved : (a c n : Bool) → ((a || c) || n) ≡ ((a || n) || c)
or_moved true c n = refl
or_moved false true true = refl
or_moved false true false = refl
or_moved false false true = refl
or_moved false false false = refl

any_is : (groups : List Group) (entry : Dest) (a b : Site) (x : Address)
    → covers_any groups b (site_end a x) entry ≡ (covers_served groups b entry.to || (is_own_devices entry.to && is_own (holder_of a) (holder_of b)))
any_is groups entry a b x =
    let into : Bool = covers_into (serves_beyond b) entry.to in
    ap (λ (m : Bool). m || into) (own_is groups entry a b x) ∙ or_moved (covers_site groups b entry.to) (is_own_devices entry.to && is_own (holder_of a) (holder_of b)) into

-- the rule lets through from one machine to the other whoever may send
abbrev goes : List Group → Site → Site → Rule → Bool
goes groups a b r = takes groups r b || joins_own_by r a b

dests_are : (groups : List Group) (sites : List Site) (a b : Site) (x : Address) (r : Rule) → IsSiteOf sites b → IsSoundSite b
    → list_any (entry_reaches groups sites (serves b) (site_end a x)) r.dests ≡ goes groups a b r
dests_are groups sites a b x r at small =
    let c : Bool = is_own (holder_of a) (holder_of b) in
    let p : Dest → Bool = λ entry. covers_served groups b entry.to in
    let q : Dest → Bool = λ entry. is_own_devices entry.to in
    any_same (entry_reaches groups sites (serves b) (site_end a x)) (λ entry. p entry || (q entry && c)) r.dests
    (λ entry. entry_is groups sites b (site_end a x) entry at small ∙ any_is groups entry a b x)
    ∙ (any_or p (λ entry. q entry && c) r.dests ∙ ap (λ m. list_any p r.dests || m) (any_and q c r.dests))

-- one of the machine's addresses may send by the rule
abbrev sends_at : List Group → Site → Address → Rule → Bool
sends_at groups a x r = some_source groups r (site_end a x)

rules_are : (groups : List Group) (rules : List Rule) (sites : List Site) (a b : Site) (x : Address) → IsSiteOf sites b → IsSoundSite b
    → list_any (rule_reaches groups sites (serves b) (site_end a x)) rules ≡ list_any (λ r. sends_at groups a x r && goes groups a b r) rules
rules_are groups rules sites a b x at small =
    any_same (rule_reaches groups sites (serves b) (site_end a x)) (λ r. sends_at groups a x r && goes groups a b r) rules
    (λ r. ap (λ m. sends_at groups a x r && m) (dests_are groups sites a b x r at small))

one_address : (policy : Option Policy) (sites : List Site) (a b : Site) (x : Address) → AreSoundRules (rules_of policy) → IsSiteOf sites a → IsSiteOf sites b → IsSoundSite b → site_has x a ≡ true
    → reaches_into policy sites (serves b) (end_at sites x) ≡ list_any (λ r. sends_at (groups_of policy) a x r && goes (groups_of policy) a b r) (rules_of policy)
one_address policy sites a b x sound from at small has =
    ap (λ (s : End). reaches_into policy sites (serves b) s) (end_is sites a from x has)
    ∙ (reach_is policy sites (serves b) (site_end a x) sound ∙ rules_are (groups_of policy) (rules_of policy) sites a b x at small)

-- both of a machine's addresses, rule by rule
both_are : (groups : List Group) (rules : List Rule) (a b : Site)
    → (list_any (λ r. sends_at groups a a.v4 r && goes groups a b r) rules || (list_any (λ r. sends_at groups a a.v6 r && goes groups a b r) rules || false)) ≡ site_reaches groups rules a b
both_are groups rules a b =
    let p : Rule → Bool = λ r. sends_at groups a a.v4 r in
    let q : Rule → Bool = λ r. sends_at groups a a.v6 r in
    let g : Rule → Bool = λ r. goes groups a b r in
    any_pair (λ r. p r && g r) (λ r. q r && g r) rules
    ∙ any_same (λ r. (p r && g r) || ((q r && g r) || false)) (λ r. sends groups r a && g r) rules
    (λ r. either_and (p r) (q r) (g r) ∙ ap (λ m. m && g r) (any_pair (λ s. covers groups s (site_end a a.v4)) (λ s. covers groups s (site_end a a.v6)) r.sources))

-- Reach between machines of the list goes by rules, over the two machines alone.
pub local_reach : (policy : Option Policy) (sites : List Site) (a b : Site) → AreSoundRules (rules_of policy) → AreDistinct sites → AreServedApart sites → Contains sites a → Contains sites b → IsSoundSite b
    → reaches policy sites a b ≡ site_reaches (groups_of policy) (rules_of policy) a b
local_reach policy sites a b sound distinct apart m n small =
    let from : IsSiteOf sites a = record { distinct = distinct; apart = apart; inside = m } in
    let at : IsSiteOf sites b = record { distinct = distinct; apart = apart; inside = n } in
    let first = one_address policy sites a b a.v4 sound from at small (has_v4 a) in
    let second = one_address policy sites a b a.v6 sound from at small (has_v6 a) in
    ap (λ m. m || (reaches_into policy sites (serves b) (end_at sites a.v6) || false)) first
    ∙ (ap (λ m. list_any (λ r. sends_at (groups_of policy) a a.v4 r && goes (groups_of policy) a b r) (rules_of policy) || (m || false)) second
    ∙ both_are (groups_of policy) (rules_of policy) a b)
