-- Machines that don't reach a machine by the rules add nothing to its filter.
use Rattle.std.proofs.Common.{◌≡◌, ◌==◌, ◌&&◌, ◌||◌, ◌⊎◌, ◌++◌, Bool, true, false, List, [], ◌∷◌, refl, ap, sym, ◌∙◌, inl, inr, if◌then◌else◌}
use Rattle.std.specs.Prelude.{Contains, Option, Some, None, filter, flat_map}
use Rattle.std.specs.List.{find, list_any}
use Rattle.std.specs.Option.{option_map, option_map_or}
use Rattle.std.proofs.lemmas.Bool.{and_cases, and_left, and_right, both_ways, cases_Bool, eq-eqb, false_from_ne_true, or_left, or_parts, or_right}
use Rattle.std.proofs.lemmas.List.Elements.{All-contains, All-contains_itself, All-filter, filter_passes}
use Rattle.net_addr.specs.Bits.{Address, Block}
use Rattle.net_rows.proofs.Members.{cut_member, find_member, find_none, find_nothing, first_member, list_any_found, list_any_member, no_member, rest_member}
use Rattle.port_sets.specs.Protocols.{members}
use Rattle.range_sets.proofs.CanonicalLemmas.{canonical_same}
use Rattle.policy_rows.specs.declared.dest.Dest.{Dest}
use Rattle.policy_rows.specs.declared.group.Group.{Group}
use Rattle.policy_rows.specs.declared.policy.Policy.{Policy}
use Rattle.policy_rows.specs.declared.rule.Rule.{Rule}
use Rattle.policy_rows.specs.declared.selector.Selector.{Selector}
use Rattle.policy_rows.specs.declared.selector.Selector.TheVariants as sel
use Rattle.tailcfg.specs.declared.filter.Sources.TheVariants.{Any, Only}
use Rattle.policy_sites.specs.ByRule.{covers_site, has_own_devices, joins_own_by, lets_through, sends, site_end, site_reaches, takes}
use Rattle.policy_sites.specs.Covers.{covers, is_own}
use Rattle.policy_sites.specs.Ends.{end_at, free_end, holder_of}
use Rattle.policy_eval.specs.Expansion.{entry_covers, source_covers}
use Rattle.policy_sites.specs.Grants.{groups_of, rules_of, some_source}
use Rattle.policy_sites.specs.Sites.{AreServedApart, AreDistinct, serves, site_has}
use Rattle.policy_sites.specs.declared.end.End.{End}
use Rattle.policy_sites.specs.declared.site.Site.{Site}
use Rattle.policy_sites.proofs.EndLemmas.{beyond_end, own_end, served_cases}
use Rattle.policy_sites.proofs.OwnLemmas.{own_two}
use Rattle.filter_compile.specs.Filters.{entry_dests, filter_of, own_dests, own_rule, own_source_covers, plain_rule, rules_filter, sources_of}
use Rattle.filter_compile.specs.Isolation.{is_near}
use Rattle.filter_compile.specs.Parts.{is_all, rule_or_none, with_ports}
use Rattle.filter_compile.proofs.TakeLemmas.{own_rule_none, plain_none}

-- ---- lists

kept_inside : {A : Type 0} (keep : A → Bool) (xs : List A) (a : A) → Contains (filter keep xs) a → Contains xs a
kept_inside keep xs a m = All-contains (Contains xs) (filter keep xs) a (All-filter keep (Contains xs) xs (All-contains_itself xs)) m

kept_passes : {A : Type 0} (keep : A → Bool) (xs : List A) (a : A) → Contains (filter keep xs) a → keep a ≡ true
kept_passes keep xs a m = All-contains (λ x. keep x ≡ true) (filter keep xs) a (filter_passes keep xs) m

kept_there : {A : Type 0} (keep : A → Bool) (xs : List A) (a : A) → Contains xs a → keep a ≡ true → Contains (filter keep xs) a
kept_there keep [] a m h = absurd (no_member a m)
kept_there {A} keep (x ∷ xs) a m h =
    elim (cases_Bool (keep x)) [
      | inl keeps ↦ elim (cut_member x xs a m) [
        | inl e ↦ rw (keeps, e) (first_member x (filter keep xs))
        | inr r ↦ rw keeps (rest_member x (filter keep xs) a (kept_there keep xs a r h))
      ]
      | inr drops ↦ elim (cut_member x xs a m) [
        | inl e ↦ absurd (both_ways (keep x) drops (ap keep (sym e) ∙ h))
        | inr r ↦ rw drops (kept_there keep xs a r h)
      ]
    ]

any_none : {A : Type 0} (test : A → Bool) (xs : List A) → ((a : A) → Contains xs a → test a ≡ false) → list_any test xs ≡ false
any_none test xs none = false_from_ne_true (list_any test xs) (λ h. let at = list_any_found test xs h in both_ways (test at.0) (none at.0 at.1) at.2)

-- ---- the machine, and the sites that are kept, its own among them

record AreKept (keep : Site → Bool) (sites : List Site) (m : Site) : Type 0 where
  distinct : AreDistinct sites
  apart : AreServedApart sites
  inside : Contains sites m
  own : keep m ≡ true

kept_distinct : (keep : Site → Bool) (sites : List Site) → AreDistinct sites → AreDistinct (filter keep sites)
kept_distinct keep sites distinct addr a b m n h k = distinct addr a b (kept_inside keep sites a m) (kept_inside keep sites b n) h k

kept_apart : (keep : Site → Bool) (sites : List Site) → AreServedApart sites → AreServedApart (filter keep sites)
kept_apart keep sites apart addr a b m n h = apart addr a b (kept_inside keep sites a m) (kept_inside keep sites b n) h

own_kept : (keep : Site → Bool) (sites : List Site) (m : Site) → AreKept keep sites m → Contains (filter keep sites) m
own_kept keep sites m at = kept_there keep sites m at.inside at.own

-- the address is one of a machine that isn't kept
record IsDropped (keep : Site → Bool) (sites : List Site) (addr : Address) (q : Site) : Type 0 where
  inside : Contains sites q
  has : site_has addr q ≡ true
  drops : keep q ≡ false
  held : end_at sites addr ≡ site_end q addr
  free : end_at (filter keep sites) addr ≡ free_end addr

-- the end at an address is the same, or that of a machine that isn't kept
kept_end : (keep : Site → Bool) (sites : List Site) → AreDistinct sites → (addr : Address) → (end_at (filter keep sites) addr ≡ end_at sites addr) ⊎ ((q : Site) × IsDropped keep sites addr q)
kept_end keep sites distinct addr = go (find (site_has addr) sites) refl
  where
    kept : List Site
    kept = filter keep sites

    nobody : find (site_has addr) kept ≡ None → end_at kept addr ≡ free_end addr
    nobody none = λ i. record { addr = Some addr; holder = option_map holder_of (none i) }

    go : (o : Option Site) → find (site_has addr) sites ≡ o → (end_at kept addr ≡ end_at sites addr) ⊎ ((q : Site) × IsDropped keep sites addr q)
    go None e =
        let none : find (site_has addr) kept ≡ None = find_nothing (site_has addr) kept (λ a m. find_none (site_has addr) sites e a (kept_inside keep sites a m)) in
        inl (λ i. record { addr = Some addr; holder = option_map holder_of ((none ∙ sym e) i) })
    go (Some q) e =
        let at = find_member (site_has addr) sites q e in
        elim (cases_Bool (keep q)) [
          | inl keeps ↦ inl (own_end kept (kept_distinct keep sites distinct) addr q (kept_there keep sites q at.0 keeps) at.1 ∙ sym (own_end sites distinct addr q at.0 at.1))
          | inr drops ↦
              let other : (a : Site) → Contains kept a → site_has addr a ≡ false = λ a m. false_from_ne_true (site_has addr a) (λ has.
              let same : a ≡ q = distinct addr a q (kept_inside keep sites a m) at.0 has at.1 in
              both_ways (keep q) drops (ap keep (sym same) ∙ kept_passes keep sites a m)) in
              inr (q, record { inside = at.0; has = at.1; drops = drops; held = own_end sites distinct addr q at.0 at.1; free = nobody (find_nothing (site_has addr) kept other) })
        ]

-- the end at what the machine serves is the same
served_kept : (keep : Site → Bool) (sites : List Site) (m : Site) → AreKept keep sites m → (addr : Address) → serves m addr ≡ true → end_at (filter keep sites) addr ≡ end_at sites addr
served_kept keep sites m at addr served =
    let here = own_kept keep sites m at in
    elim (served_cases m addr served) [
      | inl own ↦ own_end (filter keep sites) (kept_distinct keep sites at.distinct) addr m here own ∙ sym (own_end sites at.distinct addr m at.inside own)
      | inr beyond ↦ beyond_end (filter keep sites) (kept_apart keep sites at.apart) addr m here beyond ∙ sym (beyond_end sites at.apart addr m at.inside beyond)
    ]

-- ---- sources

-- what covers an address that nobody holds covers it as well where somebody does
free_less : (groups : List Group) (selector : Selector) (q : Site) (addr : Address) → covers groups selector (site_end q addr) ≡ false → covers groups selector (free_end addr) ≡ false
free_less groups sel.All q addr h = h
free_less groups (sel.Net net) q addr h = h
free_less groups (sel.User login) q addr h = refl
free_less groups (sel.Group name) q addr h = refl
free_less groups (sel.Tagged tag) q addr h = refl
free_less groups sel.Member q addr h = refl
free_less groups sel.AllTagged q addr h = refl
free_less groups sel.Internet q addr h = h
free_less groups sel.OwnDevices q addr h = refl

-- no source of a rule by which a machine may not send covers one of its addresses
not_covered : (groups : List Group) (r : Rule) (q : Site) (addr : Address) → sends groups r q ≡ false → site_has addr q ≡ true → (s : Selector) → Contains r.sources s → covers groups s (site_end q addr) ≡ false
not_covered groups r q addr none has s m =
    let f : Address → Bool = λ y. covers groups s (site_end q y) in
    let both = or_parts (f q.v4) (f q.v6 || false) (list_any_member (covers_site groups q) r.sources none s m) in
    elim (own_two q addr has) [
      | inl e ↦ ap f (sym e) ∙ both.0
      | inr e ↦ ap f (sym e) ∙ (or_parts (f q.v6) false both.1).0
    ]

no_source : (groups : List Group) (r : Rule) (q : Site) (addr : Address) → sends groups r q ≡ false → site_has addr q ≡ true
    → (some_source groups r (site_end q addr) ≡ false) × (some_source groups r (free_end addr) ≡ false)
no_source groups r q addr none has =
    let each = not_covered groups r q addr none has in (
      any_none (λ s. covers groups s (site_end q addr)) r.sources each,
      any_none (λ s. covers groups s (free_end addr)) r.sources (λ s m. free_less groups s q addr (each s m)),
    )

-- none of the machines that aren't kept may send by the rule
source_same : (groups : List Group) (r : Rule) (keep : Site → Bool) (sites : List Site) → AreDistinct sites → ((q : Site) → Contains sites q → keep q ≡ false → sends groups r q ≡ false)
    → (addr : Address) → source_covers groups sites r addr ≡ source_covers groups (filter keep sites) r addr
source_same groups r keep sites distinct quiet addr = elim (kept_end keep sites distinct addr) [
  | inl same ↦ ap (some_source groups r) (sym same)
  | inr at ↦
      let d = at.1 in
      let none = no_source groups r at.0 addr (quiet at.0 d.inside d.drops) d.has in
      ap (some_source groups r) d.held ∙ (none.0 ∙ sym (ap (some_source groups r) d.free ∙ none.1))
]

-- or each of them may not, or isn't the machine's own
own_source_same : (groups : List Group) (r : Rule) (keep : Site → Bool) (sites : List Site) (m : Site) → AreDistinct sites
    → ((q : Site) → Contains sites q → keep q ≡ false → (sends groups r q ≡ false) ⊎ (is_own (holder_of q) (holder_of m) ≡ false))
    → (addr : Address) → own_source_covers groups sites m r addr ≡ own_source_covers groups (filter keep sites) m r addr
own_source_same groups r keep sites m distinct quiet addr = elim (kept_end keep sites distinct addr) [
  | inl same ↦ ap own (sym same)
  | inr at ↦
      let d = at.1 in
      let held = site_end at.0 addr in
      let silent : own held ≡ false = elim (quiet at.0 d.inside d.drops) [
        | inl mute ↦ and_left (some_source groups r held) (is_own (holder_of at.0) (holder_of m)) (no_source groups r at.0 addr mute d.has).0
        | inr other ↦ and_right (some_source groups r held) (is_own (holder_of at.0) (holder_of m)) other
      ] in
      ap own d.held ∙ (silent ∙ sym (ap own d.free ∙ and_right (some_source groups r (free_end addr)) false refl))
]
  where
    own : End → Bool
    own e = some_source groups r e && option_map_or (λ holder. is_own holder (holder_of m)) e.holder false

-- ---- rules

sources_same : (groups : List Group) (r : Rule) (keep : Site → Bool) (sites : List Site) → AreDistinct sites → ((q : Site) → Contains sites q → keep q ≡ false → sends groups r q ≡ false)
    → sources_of groups sites r ≡ sources_of groups (filter keep sites) r
sources_same groups r keep sites distinct quiet =
    ap (λ (ps : List Block). if list_any is_all r.sources then Any else Only ps)
    (canonical_same (source_covers groups sites r) (source_covers groups (filter keep sites) r) (λ addr _. source_same groups r keep sites distinct quiet addr))

entry_same : (groups : List Group) (keep : Site → Bool) (sites : List Site) (m : Site) → AreKept keep sites m → (entry : Dest) → entry_dests groups sites m entry ≡ entry_dests groups (filter keep sites) m entry
entry_same groups keep sites m at entry =
    ap (λ (ps : List Block). flat_map (with_ports entry.ports) ps)
    (canonical_same (λ addr. entry_covers groups sites entry addr && serves m addr) (λ addr. entry_covers groups (filter keep sites) entry addr && serves m addr) (λ addr _. each addr))
  where
    each : (addr : Address) → (entry_covers groups sites entry addr && serves m addr) ≡ (entry_covers groups (filter keep sites) entry addr && serves m addr)
    each addr = elim (cases_Bool (serves m addr)) [
      | inl served ↦ ap (λ (e : End). covers groups entry.to e && serves m addr) (sym (served_kept keep sites m at addr served))
      | inr not ↦ and_right (entry_covers groups sites entry addr) (serves m addr) not ∙ sym (and_right (entry_covers groups (filter keep sites) entry addr) (serves m addr) not)
    ]

-- by the rule no machine that isn't kept is let through
abbrev IsQuiet : List Group → Rule → (Site → Bool) → List Site → Site → Type 0
IsQuiet groups r keep sites m = (q : Site) → Contains sites q → keep q ≡ false → lets_through groups q m r ≡ false

plain_same : (groups : List Group) (r : Rule) (keep : Site → Bool) (sites : List Site) (m : Site) → AreKept keep sites m → IsQuiet groups r keep sites m → plain_rule groups sites m r ≡ plain_rule groups (filter keep sites) m r
plain_same groups r keep sites m at quiet = elim (cases_Bool (takes groups r m)) [
  | inl takes_it ↦
      let mute : (q : Site) → Contains sites q → keep q ≡ false → sends groups r q ≡ false = λ q inside drops. elim (and_cases (sends groups r q) (takes groups r m || joins_own_by r q m) (quiet q inside drops)) [
        | inl none ↦ none
        | inr neither ↦ absurd (both_ways (takes groups r m) (or_parts (takes groups r m) (joins_own_by r q m) neither).0 takes_it)
      ] in
      let sources = sources_same groups r keep sites at.distinct mute in
      λ i. rule_or_none (members r.protos) (sources i) (flat_map (λ entry. entry_same groups keep sites m at entry i) r.dests)
  | inr none ↦
      sym (plain_none groups sites m r at.distinct at.apart at.inside none)
      ∙ plain_none groups (filter keep sites) m r (kept_distinct keep sites at.distinct) (kept_apart keep sites at.apart) (own_kept keep sites m at) none
]

own_same : (groups : List Group) (r : Rule) (keep : Site → Bool) (sites : List Site) (m : Site) → AreKept keep sites m → IsQuiet groups r keep sites m → own_rule groups sites m r ≡ own_rule groups (filter keep sites) m r
own_same groups r keep sites m at quiet = elim (cases_Bool (has_own_devices r)) [
  | inl owns ↦
      let apart : (q : Site) → Contains sites q → keep q ≡ false → (sends groups r q ≡ false) ⊎ (is_own (holder_of q) (holder_of m) ≡ false) = λ q inside drops.
      elim (and_cases (sends groups r q) (takes groups r m || joins_own_by r q m) (quiet q inside drops)) [
        | inl none ↦ inl none
        | inr neither ↦ elim (and_cases (has_own_devices r) (is_own (holder_of q) (holder_of m)) (or_parts (takes groups r m) (joins_own_by r q m) neither).1) [
          | inl not ↦ absurd (both_ways (has_own_devices r) not owns)
          | inr other ↦ inr other
        ]
      ] in
      ap (λ (ps : List Block). rule_or_none (members r.protos) (Only ps) (flat_map (own_dests m) r.dests))
      (canonical_same (own_source_covers groups sites m r) (own_source_covers groups (filter keep sites) m r) (λ addr _. own_source_same groups r keep sites m at.distinct apart addr))
  | inr none ↦ sym (own_rule_none groups sites m r none) ∙ own_rule_none groups (filter keep sites) m r none
]

rules_same : (groups : List Group) (rules : List Rule) (keep : Site → Bool) (sites : List Site) (m : Site) → AreKept keep sites m
    → ((q : Site) → Contains sites q → keep q ≡ false → site_reaches groups rules q m ≡ false) → rules_filter groups rules sites m ≡ rules_filter groups rules (filter keep sites) m
rules_same groups [] keep sites m at quiet = refl
rules_same groups (r ∷ rules) keep sites m at quiet =
    let parts = λ (q : Site) (inside : Contains sites q) (drops : keep q ≡ false). or_parts (lets_through groups q m r) (site_reaches groups rules q m) (quiet q inside drops) in
    let first : IsQuiet groups r keep sites m = λ q inside drops. (parts q inside drops).0 in
    let plain = plain_same groups r keep sites m at first in
    let own = own_same groups r keep sites m at first in
    let rest = rules_same groups rules keep sites m at (λ q inside drops. (parts q inside drops).1) in
    λ i. (plain i ++ own i) ++ rest i

-- The filter is that over any of the machines, so long as those that reach it are among them.
pub filter_kept : (policy : Option Policy) (sites : List Site) (m : Site) (keep : Site → Bool) → AreDistinct sites → AreServedApart sites → Contains sites m → keep m ≡ true
    → ((q : Site) → Contains sites q → site_reaches (groups_of policy) (rules_of policy) q m ≡ true → keep q ≡ true)
    → filter_of policy sites m ≡ filter_of policy (filter keep sites) m
filter_kept policy sites m keep distinct apart inside own reached =
    rules_same (groups_of policy) (rules_of policy) keep sites m (record { distinct = distinct; apart = apart; inside = inside; own = own })
    (λ q there drops. false_from_ne_true (site_reaches (groups_of policy) (rules_of policy) q m) (λ h. both_ways (keep q) drops (reached q there h)))

-- So it is that over the machine itself, those that it reaches and those that reach it.
pub filter_near : (policy : Option Policy) (sites : List Site) (m : Site) → AreDistinct sites → AreServedApart sites → Contains sites m
    → filter_of policy sites m ≡ filter_of policy (filter (is_near (groups_of policy) (rules_of policy) m) sites) m
filter_near policy sites m distinct apart inside =
    let reach = site_reaches (groups_of policy) (rules_of policy) in
    filter_kept policy sites m (is_near (groups_of policy) (rules_of policy) m) distinct apart inside
    (or_left (m.id == m.id) (reach m m || reach m m) (eq-eqb m.id m.id refl))
    (λ q there h. or_right (q.id == m.id) (reach m q || reach q m) (or_right (reach m q) (reach q m) h))
