-- The filter of a machine if no policy is in force.
use Rattle.std.proofs.Common.{◌≡◌, ◌≢◌, ◌&&◌, ◌==◌, ◌<◌, ◌≤◌, ◌+◌, ◌^◌, ◌||◌, ℕ, zero, suc, Bool, true, false, List, [], ◌∷◌, ◌++◌, arith, refl, ap, sym, ◌∙◌, inl, inr, subst}
use Rattle.std.specs.Prelude.{flat_map, map}
use Rattle.std.specs.Bool.{beq}
use Rattle.std.proofs.Math.Bool.{or-false}
use Rattle.std.proofs.Math.Nat.{two-pow-succ}
use Rattle.std.proofs.lemmas.Bool.{and_from, cases_lt, eq-eqb, ne_eqb, or_left}
use Rattle.std.proofs.lemmas.List.{append-nil}
use Rattle.std.proofs.lemmas.Nat.{pow_pos}
use Rattle.tail_base.proofs.Bools.{beq-from}
use Rattle.net_addr.specs.Bits.{Block, family_size}
use Rattle.net_addr.specs.Blocks.{prefix_of_addr}
use Rattle.net_rows.specs.Damage.{address_eq}
use Rattle.range_sets.specs.Canonical.{block_at, canonical, greatest_in}
use Rattle.range_sets.specs.Sets.{some_holds}
use Rattle.range_sets.proofs.CanonicalLemmas.{canonical_is}
use Rattle.range_sets.proofs.GreatestLemmas.{all_false, greatest_none}
use Rattle.port_sets.specs.declared.range.PortRange.{PortRange}
use Rattle.policy_rows.specs.Internet.{is_internet}
use Rattle.policy_rows.specs.declared.group.Group.{Group}
use Rattle.tailcfg.specs.declared.filter.DestRange.{DestRange}
use Rattle.tailcfg.specs.declared.filter.FilterRule.{FilterRule}
use Rattle.tailcfg.specs.declared.filter.Sources.TheVariants.{Any}
use Rattle.policy_sites.specs.Serving.{serves_with}
use Rattle.policy_sites.specs.Grants.{open_rule}
use Rattle.policy_sites.specs.Sites.{serves}
use Rattle.policy_sites.specs.declared.site.Site.{Site}
use Rattle.policy_sites.proofs.EndLemmas.{serves_own}
use Rattle.filter_compile.specs.Filters.{rules_filter}
use Rattle.filter_compile.specs.Parts.{rule_or_none, with_ports}
use Rattle.filter_compile.specs.Unrestricted.{HasBothFamilies, at_all_ports, own_two, unrestricted}
use Rattle.filter_compile.proofs.KeptLemmas.{kept_rule, some_first}

-- the prefixes of one number
single : (v6 : Bool) (h : ℕ → Bool) (n base a : ℕ) → base ≤ a → a < base + 2 ^ n → h a ≡ true → ((x : ℕ) → (x ≡ a → ⊥) → h x ≡ false)
    → greatest_in v6 h n base ≡ block_at v6 0 a ∷ []
unfolding greatest_in
single v6 h zero base a low high has other =
    let same : base ≡ a = omega arith in
    rw same (rw has refl)
single v6 h (suc n) base a low high has other =
    let two : 2 ^ suc n ≡ 2 ^ n + 2 ^ n = two-pow-succ n in
    let pos : zero < 2 ^ n = pow_pos n in
    elim (cases_lt a (base + 2 ^ n)) [
      | inl left ↦ rw (
        all_false h (suc n) base (base + 2 ^ n) (omega arith) (omega arith) (other (base + 2 ^ n) (λ e. omega arith)),
        single v6 h n base a low left has other,
        greatest_none v6 h n (base + 2 ^ n) (λ x p q. other x (λ e. omega arith)),
      ) refl
      | inr right ↦ rw (
        all_false h (suc n) base base (omega arith) (omega arith) (other base (λ e. omega arith)),
        greatest_none v6 h n base (λ x p q. other x (λ e. omega arith)),
        single v6 h n (base + 2 ^ n) a right (omega arith) has other,
      ) refl
    ]

-- the prefixes of an address of each family
pair : (a b : ℕ) → a < 2 ^ 32 → b < 2 ^ 128
    → canonical (λ addr. address_eq (record { v6 = false; bits = a }) addr || address_eq (record { v6 = true; bits = b }) addr)
    ≡ prefix_of_addr (record { v6 = false; bits = a }) ∷ prefix_of_addr (record { v6 = true; bits = b }) ∷ []
pair a b small less =
    let first = single false (λ x. (a == x) || false) 32 0 a (omega arith) (omega arith) (or-false (a == a) ∙ eq-eqb a a refl) (λ x ne. or-false (a == x) ∙ ne_eqb a x (λ e. ne (sym e))) in
    let second = single true (λ x. b == x) 128 0 b (omega arith) (omega arith) (eq-eqb b b refl) (λ x ne. ne_eqb b x (λ e. ne (sym e))) in
    ap (λ ps. ps ++ greatest_in true (λ x. b == x) 128 0) first ∙ ap (λ ps. block_at false 0 a ∷ ps) second

-- those of a machine
both : (m : Site) → HasBothFamilies m → canonical (λ addr. address_eq m.v4 addr || address_eq m.v6 addr) ≡ prefix_of_addr m.v4 ∷ prefix_of_addr m.v6 ∷ []
both m h =
    let at : Bool → Bool → Type 0 = λ f g. canonical (λ addr. address_eq (record { v6 = f; bits = m.v4.bits }) addr || address_eq (record { v6 = g; bits = m.v6.bits }) addr)
    ≡ prefix_of_addr (record { v6 = f; bits = m.v4.bits }) ∷ prefix_of_addr (record { v6 = g; bits = m.v6.bits }) ∷ [] in
    subst (λ (f : Bool). at f m.v6.v6) (sym h.v4) (subst (λ (g : Bool). at false g) (sym h.v6) (pair m.v4.bits m.v6.bits h.v4_small h.v6_small))

no_more : (a i : Bool) → (a || false || false && i) ≡ a
no_more true i = refl
no_more false i = refl

-- those of one that serves nothing else
pub alone : (m : Site) → HasBothFamilies m → m.approved ≡ [] → m.exit ≡ false → canonical (serves m) ≡ own_two m
alone m h routes exit =
    let served : serves m ≡ (λ addr. address_eq m.v4 addr || address_eq m.v6 addr) =
    (λ i addr. serves_with m.v4 m.v6 (routes i) (exit i) addr) ∙ (λ i addr. no_more (address_eq m.v4 addr || address_eq m.v6 addr) (is_internet addr) i) in
    ap canonical served ∙ both m h

-- a machine serves something
something : (m : Site) → HasBothFamilies m → canonical (serves m) ≢ []
something m h none =
    let small : m.v4.bits < family_size m.v4.v6 = subst (λ (f : Bool). m.v4.bits < family_size f) (sym h.v4) h.v4_small in
    let own : address_eq m.v4 m.v4 ≡ true = and_from (beq m.v4.v6 m.v4.v6) (m.v4.bits == m.v4.bits) (beq-from m.v4.v6 m.v4.v6 refl) (eq-eqb m.v4.bits m.v4.bits refl) in
    let has : serves m m.v4 ≡ true = serves_own m m.v4 (or_left (address_eq m.v4 m.v4) (address_eq m.v6 m.v4) own) in
    let held : some_holds (canonical (serves m)) m.v4 ≡ true = (canonical_is (serves m)).same m.v4 small ∙ has in
    let bad : false ≡ true = ap (λ (ps : List Block). some_holds ps m.v4) (sym none) ∙ held in
    cc

abbrev all_ports : List PortRange
all_ports = record { first = 0; last = 65535 } ∷ []

-- prefixes with all ports
at_all : (ps : List Block) → flat_map (with_ports all_ports) ps ++ [] ≡ map at_all_ports ps
at_all ps = append-nil (flat_map (with_ports all_ports) ps) ∙ go ps
  where
    go : (qs : List Block) → flat_map (with_ports all_ports) qs ≡ map at_all_ports qs
    go [] = refl
    go (q ∷ qs) = ap (λ (ds : List DestRange). at_all_ports q ∷ ds) (go qs)

open_rule_is : (protos : List ℕ) (ps : List Block) → ps ≢ [] → rule_or_none protos Any (flat_map (with_ports all_ports) ps ++ []) ≡ record { sources = Any; dests = map at_all_ports ps; protos = protos } ∷ []
open_rule_is protos [] some = absurd (some refl)
open_rule_is protos (p ∷ ps) some =
    ap (λ (ds : List DestRange). rule_or_none protos Any ds) (at_all (p ∷ ps)) ∙ kept_rule protos Any (map at_all_ports (p ∷ ps)) (some_first (at_all_ports p) (map at_all_ports ps)) refl

-- where everything is let through
pub open_is : (groups : List Group) (sites : List Site) (m : Site) → HasBothFamilies m → rules_filter groups (open_rule ∷ []) sites m ≡ unrestricted m
open_is groups sites m h = ap (λ (rs : List FilterRule). (rs ++ []) ++ []) (open_rule_is (1 ∷ 6 ∷ 17 ∷ 58 ∷ []) (canonical (serves m)) (something m h))
