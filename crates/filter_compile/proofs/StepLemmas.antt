-- The steps of the loops over rules and destinations.
use Rattle.std.proofs.Common.{◌≡◌, ◌<◌, ◌≤◌, ◌+◌, ◌&&◌, ℕ, Bool, List, ◌∷◌, ◌++◌, length, add-one, append_assoc, drop, drop-cons, get_or, refl, ap, sym, ◌∙◌, subst}
use Rattle.std.specs.Prelude.{flat_map, slice_index_or}
use Rattle.std.proofs.lemmas.List.{append-nil, drop_all, get_or_read}
use Rattle.net_addr.specs.Bits.{Address, Block}
use Rattle.port_sets.specs.declared.range.PortRange.{PortRange}
use Rattle.range_sets.specs.Sets.{Ranges, has}
use Rattle.range_sets.proofs.CanonicalLemmas.{canonical_same}
use Rattle.policy_rows.specs.declared.dest.Dest.{Dest}
use Rattle.policy_rows.specs.declared.group.Group.{Group}
use Rattle.policy_rows.specs.declared.rule.Rule.{Rule}
use Rattle.tailcfg.specs.declared.filter.DestRange.{DestRange}
use Rattle.policy_eval.specs.Expansion.{IsSetOf, entry_covers, source_covers}
use Rattle.policy_sites.specs.Sites.{serves}
use Rattle.policy_sites.specs.declared.site.Site.{Site}
use Rattle.filter_compile.specs.Filters.{entry_dests}
use Rattle.filter_compile.specs.Parts.{dest_ranges, with_ports}

-- an element that was read at a place stands there, whatever the default
pub stands_at : {A : Type 0} (xs : List A) (i : ℕ) (x : A) → i < length xs → x ≡ get_or xs i x → (d : A) → slice_index_or xs i d ≡ x
stands_at xs i x less is d = sym (get_or_read xs i x less is d)

-- one more of a list whose elements give lists
pub flat_more : {A B : Type 0} (f : A → List B) (xs : List A) (i : ℕ) (out new : List B) (x : A) (all : List B) → i < length xs → x ≡ get_or xs i x
    → out ++ flat_map f (drop i xs) ≡ all → new ≡ out ++ f x → new ++ flat_map f (drop (i + 1) xs) ≡ all
flat_more {A} {B} f xs i out new x all lt is told put =
    let front : drop i xs ≡ get_or xs i x ∷ drop (i + 1) xs = rw (add-one, drop-cons xs i x) refl in
    let cut : drop i xs ≡ x ∷ drop (i + 1) xs = front ∙ ap (λ (z : A). z ∷ drop (i + 1) xs) (sym is) in
    let whole : out ++ flat_map f (x ∷ drop (i + 1) xs) ≡ all = ap (λ (zs : List A). out ++ flat_map f zs) (sym cut) ∙ told in
    ap (λ (zs : List B). zs ++ flat_map f (drop (i + 1) xs)) put ∙ (append_assoc out (f x) (flat_map f (drop (i + 1) xs)) ∙ whole)

-- at the end nothing is left
pub flat_end : {A B : Type 0} (f : A → List B) (xs items : List A) (i : ℕ) (out all : List B) → items ≡ xs → length items ≤ i → out ++ flat_map f (drop i xs) ≡ all → out ≡ all
flat_end {A} {B} f xs items i out all same past told =
    let end : length xs ≤ i = subst (λ (zs : List A). length zs ≤ i) same past in
    sym (append-nil out) ∙ (ap (λ (zs : List A). out ++ flat_map f zs) (sym (drop_all i xs end)) ∙ told)

-- what both sets have is what the destination covers and the machine serves
pub entry_is : (groups : List Group) (sites : List Site) (m : Site) (rules : List Rule) (at place : ℕ) (r : Rule) (entry : Dest) (covered served : Ranges)
    → ((d : Rule) → slice_index_or rules at d ≡ r) → ((d : Dest) → slice_index_or r.dests place d ≡ entry)
    → ((d : Rule) (e : Dest) → IsSetOf covered (entry_covers groups sites (slice_index_or (slice_index_or rules at d).dests place e)))
    → ((addr : Address) → has served addr ≡ serves m addr)
    → dest_ranges entry.ports (λ addr. has covered addr && has served addr) ≡ entry_dests groups sites m entry
entry_is groups sites m rules at place r entry covered served rule_at entry_at cover serve =
    let there : slice_index_or (slice_index_or rules at r).dests place entry ≡ entry = ap (λ (z : Rule). slice_index_or z.dests place entry) (rule_at r) ∙ entry_at entry in
    let set : IsSetOf covered (entry_covers groups sites entry) = subst (λ (z : Dest). IsSetOf covered (entry_covers groups sites z)) there (cover r entry) in
    ap (λ (ps : List Block). flat_map (with_ports entry.ports) ps)
    (canonical_same (λ addr. has covered addr && has served addr) (λ addr. entry_covers groups sites entry addr && serves m addr)
    (λ addr small. ap (λ (b : Bool). b && has served addr) (set addr small) ∙ ap (λ (b : Bool). entry_covers groups sites entry addr && b) (serve addr)))

-- one more destination
pub plain_more : (groups : List Group) (sites : List Site) (m : Site) (rules : List Rule) (at place : ℕ) (r : Rule) (entry : Dest) (covered served : Ranges) (ports : List PortRange) (items : List Dest) (out new : List DestRange) (all : List DestRange)
    → items ≡ r.dests → ports ≡ entry.ports → place < length items → entry ≡ get_or items place entry
    → ((d : Rule) → slice_index_or rules at d ≡ r)
    → ((d : Rule) (e : Dest) → IsSetOf covered (entry_covers groups sites (slice_index_or (slice_index_or rules at d).dests place e)))
    → ((addr : Address) → has served addr ≡ serves m addr)
    → out ++ flat_map (entry_dests groups sites m) (drop place r.dests) ≡ all
    → new ≡ out ++ dest_ranges ports (λ addr. has covered addr && has served addr)
    → new ++ flat_map (entry_dests groups sites m) (drop (place + 1) r.dests) ≡ all
plain_more groups sites m rules at place r entry covered served ports items out new all same ports_same lt is rule_at cover serve told put =
    let less : place < length r.dests = subst (λ (zs : List Dest). place < length zs) same lt in
    let item : entry ≡ get_or r.dests place entry = subst (λ (zs : List Dest). entry ≡ get_or zs place entry) same is in
    let step = entry_is groups sites m rules at place r entry covered served rule_at (stands_at r.dests place entry less item) cover serve in
    let exact : new ≡ out ++ entry_dests groups sites m entry =
    put ∙ (ap (λ (ps : List PortRange). out ++ dest_ranges ps (λ addr. has covered addr && has served addr)) ports_same ∙ ap (λ (ds : List DestRange). out ++ ds) step) in
    flat_more (entry_dests groups sites m) r.dests place out new entry all less item told exact

-- the set at a place is that of the rule there
pub source_set_is : (groups : List Group) (sites : List Site) (rules : List Rule) (at : ℕ) (r : Rule) (covered : Ranges)
    → ((d : Rule) → slice_index_or rules at d ≡ r) → ((d : Rule) → IsSetOf covered (source_covers groups sites (slice_index_or rules at d)))
    → IsSetOf covered (source_covers groups sites r)
source_set_is groups sites rules at r covered rule_at cover = subst (λ (z : Rule). IsSetOf covered (source_covers groups sites z)) (rule_at r) (cover r)
