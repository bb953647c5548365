-- What the filter rules of a rule admit.
use Rattle.std.proofs.Common.{◌≡◌, ◌<◌, ◌⊎◌, ◌&&◌, ◌||◌, ◌==◌, ℕ, suc, Bool, true, false, not, List, [], ◌∷◌, length, arith, refl, ap, sym, ◌∙◌, inl, inr}
use Rattle.std.specs.Prelude.{Contains, flat_map}
use Rattle.std.specs.List.{list_any}
use Rattle.std.proofs.Math.Bool.{and-false, or-false}
use Rattle.std.proofs.lemmas.List.Folds.{list_any-append}
use Rattle.std.proofs.lemmas.Bool.{and_from, and_parts, both_ways, cases_Bool, ne_eqb, or_cases, or_left, or_right}
use Rattle.net_addr.specs.Bits.{Address, Block, family_size}
use Rattle.net_addr.specs.Blocks.{holds}
use Rattle.port_sets.specs.Protocols.{has_member, is_ported, members}
use Rattle.port_sets.specs.Ranges.{IsPorts, in_piece}
use Rattle.port_sets.specs.declared.range.PortRange.{PortRange}
use Rattle.range_sets.specs.Canonical.{canonical}
use Rattle.range_sets.specs.Sets.{some_holds}
use Rattle.range_sets.proofs.CanonicalLemmas.{canonical_is}
use Rattle.policy_rows.specs.declared.dest.Dest.{Dest}
use Rattle.policy_rows.specs.declared.group.Group.{Group}
use Rattle.policy_rows.specs.declared.rule.Rule.{Rule}
use Rattle.policy_rows.specs.declared.selector.Selector.{Selector}
use Rattle.policy_rows.specs.declared.selector.Selector.TheVariants.{All, Net, User, Group as OfGroup, Tagged, Member, AllTagged, Internet, OwnDevices}
use Rattle.tailcfg.specs.declared.filter.DestRange.{DestRange}
use Rattle.tailcfg.specs.declared.filter.Sources.{Sources}
use Rattle.tailcfg.specs.declared.filter.Sources.TheVariants.{Any, Only}
use Rattle.tail_base.proofs.Bools.{same_tests}
use Rattle.tail_base.proofs.Searches.{any_weaker}
use Rattle.net_rows.proofs.Members.{list_any_found, list_any_is}
use Rattle.policy_sites.specs.Covers.{covers, dest_covers, is_own_devices, joins_own}
use Rattle.policy_sites.specs.Ends.{end_at}
use Rattle.policy_eval.specs.Expansion.{entry_covers, source_covers}
use Rattle.policy_sites.specs.Grants.{entry_grants, ports_hold, rule_grants, some_source}
use Rattle.policy_sites.specs.Reach.{AreSoundRules, IsSoundRule}
use Rattle.policy_sites.specs.Sites.{AreServedApart, AreDistinct, serves, site_has}
use Rattle.policy_sites.specs.declared.end.End.{End}
use Rattle.policy_sites.specs.declared.site.Site.{Site}
use Rattle.policy_sites.proofs.EndLemmas.{beyond_end, joins_nobody, own_end, served_cases}
use Rattle.filter_compile.specs.Admits.{AdmitsGranted, dest_admits, rule_admits, source_admits}
use Rattle.filter_compile.specs.Filters.{entry_dests, is_of_own, own_dests, own_rule, own_source_covers, plain_rule, rule_filter, rules_filter, sources_of}
use Rattle.filter_compile.specs.Parts.{dest_ranges, is_all, rule_or_none, with_ports}
use Rattle.filter_compile.proofs.KeptLemmas.{from_nobody, kept_rule, left_out, some_first}
use Rattle.filter_compile.proofs.ListLemmas.{any_and, any_and_behind, any_flat_map, any_map, any_or, any_same}

-- the canonical prefixes hold the set
canonical_held : (held : Address → Bool) (addr : Address) → addr.bits < family_size addr.v6 → some_holds (canonical held) addr ≡ held addr
canonical_held held addr small = (canonical_is held).same addr small

-- ---- one filter rule

-- a rule that is left out admits nothing
rule_or_none_admits : (x y : Address) (proto port : ℕ) (protos : List ℕ) (sources : Sources) (dests : List DestRange)
    → list_any (rule_admits x y proto port) (rule_or_none protos sources dests) ≡ rule_admits x y proto port (record { sources = sources; dests = dests; protos = protos })
rule_or_none_admits x y proto port protos sources [] =
    ap (λ rules. list_any (rule_admits x y proto port) rules) (left_out protos sources [] refl) ∙ sym (and-false (list_any (λ p. p == proto) protos && source_admits sources x))
rule_or_none_admits x y proto port protos Any (d ∷ ds) =
    ap (λ rules. list_any (rule_admits x y proto port) rules) (kept_rule protos Any (d ∷ ds) (some_first d ds) refl) ∙ or-false (rule_admits x y proto port (record { sources = Any; dests = d ∷ ds; protos = protos }))
rule_or_none_admits x y proto port protos (Only []) (d ∷ ds) =
    ap (λ rules. list_any (rule_admits x y proto port) rules) (from_nobody protos (Only []) (d ∷ ds) refl)
    ∙ sym (ap (λ b. b && list_any (dest_admits y proto port) (d ∷ ds)) (and-false (list_any (λ p. p == proto) protos)))
rule_or_none_admits x y proto port protos (Only (p ∷ ps)) (d ∷ ds) =
    ap (λ rules. list_any (rule_admits x y proto port) rules) (kept_rule protos (Only (p ∷ ps)) (d ∷ ds) (some_first d ds) (ne_eqb (suc (length ps)) 0 (λ e. omega arith)))
    ∙ or-false (rule_admits x y proto port (record { sources = Only (p ∷ ps); dests = d ∷ ds; protos = protos }))

-- ---- sources

all_covers : (groups : List Group) (e : End) (s : Selector) → is_all s ≡ true → covers groups s e ≡ true
all_covers groups e All h = refl
all_covers groups e (Net net) h = cc
all_covers groups e (User login) h = cc
all_covers groups e (OfGroup name) h = cc
all_covers groups e (Tagged tag) h = cc
all_covers groups e Member h = cc
all_covers groups e AllTagged h = cc
all_covers groups e Internet h = cc
all_covers groups e OwnDevices h = cc

sources_admit : (groups : List Group) (sites : List Site) (r : Rule) (x : Address) → x.bits < family_size x.v6 → source_admits (sources_of groups sites r) x ≡ some_source groups r (end_at sites x)
sources_admit groups sites r x small =
    elim (cases_Bool (list_any is_all r.sources)) [
      | inl all ↦ rw all (sym (any_weaker is_all (λ s. covers groups s (end_at sites x)) r.sources (all_covers groups (end_at sites x)) all))
      | inr some ↦ rw some (canonical_held (source_covers groups sites r) x small)
    ]

-- ---- destinations

one_admits : (y : Address) (proto port : ℕ) (ports : List PortRange) → IsPorts ports → (p : Block) → list_any (dest_admits y proto port) (with_ports ports p) ≡ (holds p y && ports_hold ports proto port)
one_admits y proto port ports some p =
    any_map (dest_admits y proto port) (λ range. record { to = p; ports = range }) ports
    ∙ (any_and (holds p y) (λ range. not (is_ported proto) || in_piece port range) ports
    ∙ ap (λ b. holds p y && b) (any_or (not (is_ported proto)) (in_piece port) ports some.some))

ranges_admit : (y : Address) (proto port : ℕ) (ports : List PortRange) (held : Address → Bool) → y.bits < family_size y.v6 → IsPorts ports
    → list_any (dest_admits y proto port) (dest_ranges ports held) ≡ (held y && ports_hold ports proto port)
ranges_admit y proto port ports held small some =
    any_flat_map (dest_admits y proto port) (with_ports ports) (canonical held)
    ∙ (any_same (λ p. list_any (dest_admits y proto port) (with_ports ports p)) (λ p. holds p y && ports_hold ports proto port) (canonical held) (λ p _. one_admits y proto port ports some p)
    ∙ (any_and_behind (ports_hold ports proto port) (λ p. holds p y) (canonical held)
    ∙ ap (λ b. b && ports_hold ports proto port) (canonical_held held y small)))

-- by a destination of the rule, other than `autogroup:self`
abbrev plain_hit : List Group → List Site → Site → Address → ℕ → ℕ → Dest → Bool
plain_hit groups sites m y proto port e = (entry_covers groups sites e y && serves m y) && ports_hold e.ports proto port

-- by `autogroup:self`
abbrev own_hit : Site → Address → ℕ → ℕ → Dest → Bool
own_hit m y proto port e = is_own_devices e.to && ((site_has y m && serves m y) && ports_hold e.ports proto port)

plain_admits : (groups : List Group) (sites : List Site) (m : Site) (y : Address) (proto port : ℕ) (es : List Dest) → y.bits < family_size y.v6 → ((e : Dest) → Contains es e → IsPorts e.ports)
    → list_any (dest_admits y proto port) (flat_map (entry_dests groups sites m) es) ≡ list_any (plain_hit groups sites m y proto port) es
plain_admits groups sites m y proto port es small some =
    any_flat_map (dest_admits y proto port) (entry_dests groups sites m) es
    ∙ any_same (λ e. list_any (dest_admits y proto port) (entry_dests groups sites m e)) (plain_hit groups sites m y proto port) es
    (λ e inside. ranges_admit y proto port e.ports (λ addr. entry_covers groups sites e addr && serves m addr) small (some e inside))

own_admits_one : (m : Site) (y : Address) (proto port : ℕ) (e : Dest) → y.bits < family_size y.v6 → IsPorts e.ports → list_any (dest_admits y proto port) (own_dests m e) ≡ own_hit m y proto port e
own_admits_one m y proto port e small some =
    elim (cases_Bool (is_own_devices e.to)) [
      | inl own ↦ rw own (ranges_admit y proto port e.ports (λ addr. site_has addr m && serves m addr) small some)
      | inr other ↦ rw other refl
    ]

own_admits : (m : Site) (y : Address) (proto port : ℕ) (es : List Dest) → y.bits < family_size y.v6 → ((e : Dest) → Contains es e → IsPorts e.ports)
    → list_any (dest_admits y proto port) (flat_map (own_dests m) es) ≡ list_any (own_hit m y proto port) es
own_admits m y proto port es small some =
    any_flat_map (dest_admits y proto port) (own_dests m) es
    ∙ any_same (λ e. list_any (dest_admits y proto port) (own_dests m e)) (own_hit m y proto port) es (λ e inside. own_admits_one m y proto port e small (some e inside))

-- ---- the filter rules of a rule

-- what the plain rule admits
abbrev plain_passes : List Group → List Site → Site → Address → Address → ℕ → ℕ → Rule → Bool
plain_passes groups sites m x y proto port r =
    has_member r.protos proto && some_source groups r (end_at sites x) && list_any (plain_hit groups sites m y proto port) r.dests

-- what that of `autogroup:self` admits
abbrev own_passes : List Group → List Site → Site → Address → Address → ℕ → ℕ → Rule → Bool
own_passes groups sites m x y proto port r =
    has_member r.protos proto && (some_source groups r (end_at sites x) && is_of_own sites m x) && list_any (own_hit m y proto port) r.dests

rule_filter_admits : (groups : List Group) (sites : List Site) (m : Site) (x y : Address) (proto port : ℕ) (r : Rule) → x.bits < family_size x.v6 → y.bits < family_size y.v6 → IsSoundRule r
    → list_any (rule_admits x y proto port) (rule_filter groups sites m r) ≡ (plain_passes groups sites m x y proto port r || own_passes groups sites m x y proto port r)
rule_filter_admits groups sites m x y proto port r from small sound =
    let split = list_any-append (rule_admits x y proto port) (plain_rule groups sites m r) (own_rule groups sites m r) in
    let plain = rule_or_none_admits x y proto port (members r.protos) (sources_of groups sites r) (flat_map (entry_dests groups sites m) r.dests) in
    let own = rule_or_none_admits x y proto port (members r.protos) (Only (canonical (own_source_covers groups sites m r))) (flat_map (own_dests m) r.dests) in
    let sources = sources_admit groups sites r x from in
    let own_sources = canonical_held (own_source_covers groups sites m r) x from in
    let dests = plain_admits groups sites m y proto port r.dests small sound.ports in
    let selves = own_admits m y proto port r.dests small sound.ports in
    split
    ∙ (ap (λ b. b || list_any (rule_admits x y proto port) (own_rule groups sites m r)) (plain ∙ (ap (λ b. has_member r.protos proto && b && list_any (dest_admits y proto port) (flat_map (entry_dests groups sites m) r.dests)) sources ∙ ap (λ b. has_member r.protos proto && some_source groups r (end_at sites x) && b) dests))
    ∙ ap (λ b. plain_passes groups sites m x y proto port r || b) (own ∙ (ap (λ b. has_member r.protos proto && b && list_any (dest_admits y proto port) (flat_map (own_dests m) r.dests)) own_sources ∙ ap (λ b. has_member r.protos proto && (some_source groups r (end_at sites x) && is_of_own sites m x) && b) selves)))

-- ---- what a rule grants

dest_split : (groups : List Group) (to : Selector) (s d : End) → dest_covers groups to s d ≡ (covers groups to d || (is_own_devices to && joins_own s d))
dest_split groups All s d = refl
dest_split groups (Net net) s d = sym (or-false (covers groups (Net net) d))
dest_split groups (User login) s d = sym (or-false (covers groups (User login) d))
dest_split groups (OfGroup name) s d = sym (or-false (covers groups (OfGroup name) d))
dest_split groups (Tagged tag) s d = sym (or-false (covers groups (Tagged tag) d))
dest_split groups Member s d = sym (or-false (covers groups Member d))
dest_split groups AllTagged s d = sym (or-false (covers groups AllTagged d))
dest_split groups Internet s d = sym (or-false (covers groups Internet d))
dest_split groups OwnDevices s d = refl

-- of a flow to one of the machine's addresses
own_joins : (sites : List Site) (m : Site) (x y : Address) → AreDistinct sites → Contains sites m → site_has y m ≡ true → joins_own (end_at sites x) (end_at sites y) ≡ is_of_own sites m x
own_joins sites m x y distinct inside has = ap (λ e. joins_own (end_at sites x) e) (own_end sites distinct y m inside has)

-- by a destination of the rule
abbrev grant_hit : List Group → End → End → Site → Address → ℕ → ℕ → Dest → Bool
grant_hit groups s d m y proto port e = serves m y && entry_grants groups s d proto port e

plain_grants : (groups : List Group) (sites : List Site) (m : Site) (x y : Address) (proto port : ℕ) (e : Dest) → plain_hit groups sites m y proto port e ≡ true
    → (serves m y ≡ true) × (entry_grants groups (end_at sites x) (end_at sites y) proto port e ≡ true)
plain_grants groups sites m x y proto port e h =
    let s = end_at sites x in
    let d = end_at sites y in
    let p = and_parts (entry_covers groups sites e y && serves m y) (ports_hold e.ports proto port) h in
    let q = and_parts (entry_covers groups sites e y) (serves m y) p.0 in
    (q.1, and_from (dest_covers groups e.to s d) (ports_hold e.ports proto port) (dest_split groups e.to s d ∙ or_left (covers groups e.to d) (is_own_devices e.to && joins_own s d) q.0) p.1)

own_grants : (groups : List Group) (sites : List Site) (m : Site) (x y : Address) (proto port : ℕ) (e : Dest) → AreDistinct sites → Contains sites m → is_of_own sites m x ≡ true → own_hit m y proto port e ≡ true
    → (serves m y ≡ true) × (entry_grants groups (end_at sites x) (end_at sites y) proto port e ≡ true)
own_grants groups sites m x y proto port e distinct inside own h =
    let s = end_at sites x in
    let d = end_at sites y in
    let p = and_parts (is_own_devices e.to) ((site_has y m && serves m y) && ports_hold e.ports proto port) h in
    let q = and_parts (site_has y m && serves m y) (ports_hold e.ports proto port) p.1 in
    let k = and_parts (site_has y m) (serves m y) q.0 in
    let joins = own_joins sites m x y distinct inside k.0 ∙ own in (
      k.1,
      and_from (dest_covers groups e.to s d) (ports_hold e.ports proto port)
          (dest_split groups e.to s d ∙ or_right (covers groups e.to d) (is_own_devices e.to && joins_own s d) (and_from (is_own_devices e.to) (joins_own s d) p.0 joins)) q.1,
    )

-- `autogroup:self` joins a machine to what another serves of its own addresses alone: beside them nobody holds the end
joined_own : (sites : List Site) (m : Site) (s : End) (y : Address) → AreServedApart sites → Contains sites m → serves m y ≡ true → joins_own s (end_at sites y) ≡ true → site_has y m ≡ true
joined_own sites m s y apart inside served joined =
    elim (served_cases m y served) [
      | inl own ↦ own
      | inr beyond ↦
          let free : joins_own s (end_at sites y) ≡ false = ap (λ (e : End). joins_own s e) (beyond_end sites apart y m inside beyond) ∙ joins_nobody s y in
          absurd (both_ways (joins_own s (end_at sites y)) free joined)
    ]

-- what is granted is a hit of the one kind or the other
grants_hit : (groups : List Group) (sites : List Site) (m : Site) (x y : Address) (proto port : ℕ) (e : Dest) → AreDistinct sites → AreServedApart sites → Contains sites m → serves m y ≡ true
    → entry_grants groups (end_at sites x) (end_at sites y) proto port e ≡ true
    → (plain_hit groups sites m y proto port e ≡ true) ⊎ ((is_of_own sites m x ≡ true) × (own_hit m y proto port e ≡ true))
grants_hit groups sites m x y proto port e distinct apart inside served h =
    let s = end_at sites x in
    let d = end_at sites y in
    let p = and_parts (dest_covers groups e.to s d) (ports_hold e.ports proto port) h in
    elim (or_cases (covers groups e.to d) (is_own_devices e.to && joins_own s d) (sym (dest_split groups e.to s d) ∙ p.0)) [
      | inl covered ↦ inl (and_from (entry_covers groups sites e y && serves m y) (ports_hold e.ports proto port) (and_from (entry_covers groups sites e y) (serves m y) covered served) p.1)
      | inr self ↦
          let q = and_parts (is_own_devices e.to) (joins_own s d) self in
          let own = joined_own sites m s y apart inside served q.1 in
          inr (
            sym (own_joins sites m x y distinct inside own) ∙ q.1,
            and_from (is_own_devices e.to) ((site_has y m && serves m y) && ports_hold e.ports proto port) q.0
                (and_from (site_has y m && serves m y) (ports_hold e.ports proto port) (and_from (site_has y m) (serves m y) own served) p.1),
          )
    ]

rule_passes : (groups : List Group) (sites : List Site) (m : Site) (x y : Address) (proto port : ℕ) (r : Rule) → AreDistinct sites → AreServedApart sites → Contains sites m
    → (plain_passes groups sites m x y proto port r || own_passes groups sites m x y proto port r) ≡ (serves m y && rule_grants groups (end_at sites x) (end_at sites y) proto port r)
rule_passes groups sites m x y proto port r distinct apart inside =
    let s = end_at sites x in
    let d = end_at sites y in
    let has = has_member r.protos proto in
    let from = some_source groups r s in
    let own = is_of_own sites m x in
    let granted = entry_grants groups s d proto port in
    same_tests (plain_passes groups sites m x y proto port r || own_passes groups sites m x y proto port r) (serves m y && rule_grants groups s d proto port r)
    (λ h. elim (or_cases (plain_passes groups sites m x y proto port r) (own_passes groups sites m x y proto port r) h) [
      | inl plain ↦
          let p = and_parts (has && from) (list_any (plain_hit groups sites m y proto port) r.dests) plain in
          let hit = list_any_found (plain_hit groups sites m y proto port) r.dests p.1 in
          let got = plain_grants groups sites m x y proto port hit.0 hit.2 in
          and_from (serves m y) (rule_grants groups s d proto port r) got.0 (and_from (has && from) (list_any granted r.dests) p.0 (list_any_is granted r.dests hit.0 hit.1 got.1))
      | inr self ↦
          let p = and_parts (has && (from && own)) (list_any (own_hit m y proto port) r.dests) self in
          let q = and_parts has (from && own) p.0 in
          let k = and_parts from own q.1 in
          let hit = list_any_found (own_hit m y proto port) r.dests p.1 in
          let got = own_grants groups sites m x y proto port hit.0 distinct inside k.1 hit.2 in
          and_from (serves m y) (rule_grants groups s d proto port r) got.0 (and_from (has && from) (list_any granted r.dests) (and_from has from q.0 k.0) (list_any_is granted r.dests hit.0 hit.1 got.1))
    ])
    (λ h.
    let p = and_parts (serves m y) (rule_grants groups s d proto port r) h in
    let q = and_parts (has && from) (list_any granted r.dests) p.1 in
    let k = and_parts has from q.0 in
    let hit = list_any_found granted r.dests q.1 in
    elim (grants_hit groups sites m x y proto port hit.0 distinct apart inside p.0 hit.2) [
      | inl plain ↦ or_left (plain_passes groups sites m x y proto port r) (own_passes groups sites m x y proto port r)
          (and_from (has && from) (list_any (plain_hit groups sites m y proto port) r.dests) q.0 (list_any_is (plain_hit groups sites m y proto port) r.dests hit.0 hit.1 plain))
      | inr self ↦ or_right (plain_passes groups sites m x y proto port r) (own_passes groups sites m x y proto port r)
          (and_from (has && (from && own)) (list_any (own_hit m y proto port) r.dests) (and_from has (from && own) k.0 (and_from from own k.1 self.0)) (list_any_is (own_hit m y proto port) r.dests hit.0 hit.1 self.1))
    ])

-- A machine's filter admits exactly the flows to what the machine serves that are granted.
pub filter_admits : (groups : List Group) (rules : List Rule) (sites : List Site) (m : Site) → AreDistinct sites → AreServedApart sites → AreSoundRules rules → Contains sites m
    → AdmitsGranted (record { groups = groups; rules = rules; sites = sites }) m (rules_filter groups rules sites m)
filter_admits groups rules sites m distinct apart sound inside x y proto port from small =
    let granted = rule_grants groups (end_at sites x) (end_at sites y) proto port in
    any_flat_map (rule_admits x y proto port) (rule_filter groups sites m) rules
    ∙ (any_same (λ r. list_any (rule_admits x y proto port) (rule_filter groups sites m r)) (λ r. serves m y && granted r) rules
    (λ r at. rule_filter_admits groups sites m x y proto port r from small (sound r at) ∙ rule_passes groups sites m x y proto port r distinct apart inside)
    ∙ any_and (serves m y) granted rules)
