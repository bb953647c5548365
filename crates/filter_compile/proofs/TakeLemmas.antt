-- Rules by which a machine takes nothing.
use Rattle.std.proofs.Common.{◌≡◌, ◌<◌, ◌≤◌, ◌&&◌, ℕ, Bool, true, false, List, [], ◌∷◌, ◌++◌, length, arith, get_or, take, refl, ap, sym, ◌∙◌}
use Rattle.std.specs.Prelude.{Contains, Some, flat_map, slice_get, slice_index_or}
use Rattle.std.specs.List.{list_any}
use Rattle.std.proofs.lemmas.Bool.{and_parts, both_ways, false_from_ne_true, or_left, or_parts}
use Rattle.std.proofs.lemmas.Option.{get_or_from_slice_get, slice_get-get_or}
use Rattle.net_addr.specs.Bits.{Address, Block, family_size}
use Rattle.net_addr.specs.Blocks.{holds}
use Rattle.net_addr.proofs.BlockLemmas.{holds_from}
use Rattle.net_rows.specs.Damage.{address_eq}
use Rattle.net_rows.proofs.Members.{first_member}
use Rattle.port_sets.specs.Protocols.{members}
use Rattle.range_sets.specs.Canonical.{IsGreatest, canonical}
use Rattle.range_sets.proofs.CanonicalLemmas.{canonical_is}
use Rattle.policy_rows.specs.declared.dest.Dest.{Dest}
use Rattle.policy_rows.specs.declared.group.Group.{Group}
use Rattle.policy_rows.specs.declared.rule.Rule.{Rule}
use Rattle.tailcfg.specs.declared.filter.Sources.TheVariants.{Only}
use Rattle.policy_sites.specs.ByRule.{covers_served, has_own_devices, takes}
use Rattle.policy_sites.specs.Covers.{is_own_devices}
use Rattle.policy_eval.specs.Expansion.{entry_covers}
use Rattle.policy_sites.specs.Sites.{AreServedApart, AreDistinct, serves}
use Rattle.policy_sites.specs.declared.site.Site.{Site}
use Rattle.policy_eval.proofs.CoverLemmas.{get_member}
use Rattle.policy_sites.proofs.ListLemmas.{told_all}
use Rattle.policy_sites.proofs.OwnLemmas.{covered_served, has_v4, own_address}
use Rattle.filter_compile.specs.Filters.{entry_dests, own_dests, own_rule, own_source_covers, plain_rule, sources_of}
use Rattle.filter_compile.specs.Parts.{with_ports}
use Rattle.filter_compile.proofs.KeptLemmas.{left_out}

own_base : (p : Block) → holds p p.base ≡ true
own_base p = holds_from p p.base refl (omega arith) (omega arith)

-- a set of no address has no prefix
nothing_held : (held : Address → Bool) → ((addr : Address) → addr.bits < family_size addr.v6 → held addr ≡ false) → canonical held ≡ []
nothing_held held none = go (canonical held) (λ p inside. ((canonical_is held).listed p).0 inside)
  where
    go : (ps : List Block) → ((p : Block) → Contains ps p → IsGreatest held p) → ps ≡ []
    go [] told = refl
    go (p ∷ ps) told =
        let greatest = told p (first_member p ps) in
        absurd (both_ways (held p.base) (none p.base greatest.block.in_family) (greatest.inside p.base (own_base p)))

entry_none : (groups : List Group) (sites : List Site) (m : Site) (entry : Dest) → AreDistinct sites → AreServedApart sites → Contains sites m → covers_served groups m entry.to ≡ false → entry_dests groups sites m entry ≡ []
entry_none groups sites m entry distinct apart inside not_taken =
    let held : Address → Bool = λ addr. entry_covers groups sites entry addr && serves m addr in
    ap (λ (ps : List Block). flat_map (with_ports entry.ports) ps)
    (nothing_held held (λ addr small. false_from_ne_true (held addr) (λ h.
    let p = and_parts (entry_covers groups sites entry addr) (serves m addr) h in
    both_ways (covers_served groups m entry.to) not_taken (covered_served groups sites m entry.to addr distinct apart inside small p.1 p.0))))

entries_none : (groups : List Group) (sites : List Site) (m : Site) (entries : List Dest) → AreDistinct sites → AreServedApart sites → Contains sites m
    → list_any (λ entry. covers_served groups m entry.to) entries ≡ false → flat_map (entry_dests groups sites m) entries ≡ []
entries_none groups sites m [] distinct apart inside none = refl
entries_none groups sites m (entry ∷ entries) distinct apart inside none =
    let p = or_parts (covers_served groups m entry.to) (list_any (λ e. covers_served groups m e.to) entries) none in
    λ i. entry_none groups sites m entry distinct apart inside p.0 i ++ entries_none groups sites m entries distinct apart inside p.1 i

-- the rule adds nothing to the filter of a machine that doesn't take by it
pub plain_none : (groups : List Group) (sites : List Site) (m : Site) (r : Rule) → AreDistinct sites → AreServedApart sites → Contains sites m → takes groups r m ≡ false → [] ≡ plain_rule groups sites m r
plain_none groups sites m r distinct apart inside none =
    sym (left_out (members r.protos) (sources_of groups sites r) (flat_map (entry_dests groups sites m) r.dests) (entries_none groups sites m r.dests distinct apart inside none))

own_none : (m : Site) (entries : List Dest) → list_any (λ entry. is_own_devices entry.to) entries ≡ false → flat_map (own_dests m) entries ≡ []
own_none m [] none = refl
own_none m (entry ∷ entries) none =
    let p = or_parts (is_own_devices entry.to) (list_any (λ e. is_own_devices e.to) entries) none in
    rw p.0 (own_none m entries p.1)

-- nor does one without `autogroup:self` by itself
pub own_rule_none : (groups : List Group) (sites : List Site) (m : Site) (r : Rule) → has_own_devices r ≡ false → [] ≡ own_rule groups sites m r
own_rule_none groups sites m r none = sym (left_out (members r.protos) (Only (canonical (own_source_covers groups sites m r))) (flat_map (own_dests m) r.dests) (own_none m r.dests none))

-- ---- where a machine stands

pub place_is : (sites : List Site) (m : Site) (i : ℕ) (s : Site) → AreDistinct sites → Contains sites m → i < length sites → s ≡ get_or sites i s → address_eq s.v4 m.v4 ≡ true
    → (d : Site) → slice_index_or sites i d ≡ m
place_is sites m i s distinct inside lt is same d =
    let there : slice_get sites i ≡ Some s = slice_get-get_or sites i s lt ∙ ap (λ (x : Site). Some x) (sym is) in
    get_or_from_slice_get sites i s d there ∙ distinct m.v4 s m (get_member sites i s there) inside (or_left (address_eq s.v4 m.v4) (address_eq s.v6 m.v4) same) (has_v4 m)

pub stands_somewhere : (sites : List Site) (m : Site) (i : ℕ) → Contains sites m → i ≤ length sites → length sites ≤ i
    → ((s : Site) → Contains (take i sites) s → address_eq s.v4 m.v4 ≡ false) → ⊥
stands_somewhere sites m i inside below past told =
    both_ways (address_eq m.v4 m.v4) (told_all (λ (s : Site). address_eq s.v4 m.v4 ≡ false) sites i below past told m inside) (own_address m.v4)
