-- Whether prefixes share an address, and which of them have one of the internet.
use Rattle.std.proofs.Common.{◌≡◌, ◌+◌, ◌<◌, ◌≤◌, ◌&&◌, ◌||◌, ◌∙◌, ℕ, Bool, true, false, List, ap, arith, inl, inr, refl, subst, sym}
use Rattle.std.specs.Prelude.{Contains, not, nat_le}
use Rattle.std.specs.Bool.{beq}
use Rattle.std.specs.List.{list_any}
use Rattle.std.proofs.lemmas.Bool.{and_from, and_parts, both_ways, cases_Bool, cases_lt, false_from_ne_true, le-leb, not-true, or_cases}
use Rattle.tail_base.proofs.Bools.{beq-from, same_tests}
use Rattle.tail_base.proofs.Searches.{any_weaker}
use Rattle.net_addr.specs.Bits.{Address, Block, family_size}
use Rattle.net_addr.specs.Blocks.{holds, is_within, last_of, overlap}
use Rattle.net_addr.specs.Searches.{some_address}
use Rattle.net_addr.proofs.BlockLemmas.{holds_from, holds_parts, overlap_means, within_means}
use Rattle.net_addr.proofs.SearchLemmas.{address_finds, address_found}
use Rattle.net_rows.proofs.Members.{list_all_member, list_any_found, list_any_is, list_any_member}
use Rattle.policy_rows.specs.Internet.{internet_nets, is_internet, not_internet, v4_net, v6_net}
use Rattle.policy_rows.specs.declared.internet.TheConstants.{GLOBAL_V6_BASE, GLOBAL_V6_LEN}

-- an address of a prefix that ends within its family is one of the family
small_at : (p : Block) (addr : Address) → last_of p < family_size p.base.v6 → holds p addr ≡ true → addr.bits < family_size addr.v6
small_at p addr ends h =
    let at = holds_parts p addr h in
    let below : addr.bits < family_size p.base.v6 = omega arith in
    subst (λ (v6 : Bool). addr.bits < family_size v6) at.0 below

-- some address of one prefix is one of the other's
pub shared_address : (p q : Block) → last_of p < family_size p.base.v6 → overlap p q ≡ some_address (λ addr. holds p addr && holds q addr)
shared_address p q ends = same_tests (overlap p q) (some_address both) to from
  where
    both : Address → Bool
    both addr = holds p addr && holds q addr

    to : overlap p q ≡ true → some_address both ≡ true
    to h =
        let at = (overlap_means (overlap p q) p q refl).0 h in
        address_found both at.0 (small_at p at.0 ends at.1) (and_from (holds p at.0) (holds q at.0) at.1 at.2)

    from : some_address both ≡ true → overlap p q ≡ true
    from h =
        let found = address_finds both h in
        let parts = and_parts (holds p found.0) (holds q found.0) found.2 in
        (overlap_means (overlap p q) p q refl).1 (found.0, parts.0, parts.1)

-- the route meets where the internet lies, and lies in no prefix that isn't public
abbrev meets_internet : Block → Bool
meets_internet p = list_any (λ net. overlap p net) internet_nets && not (list_any (λ net. is_within p net) not_internet)

abbrev among : List Block → Address → Bool
among nets addr = list_any (λ net. holds net addr) nets

-- behind each prefix that isn't public there is a public address
behind_public : (net : Block) → Contains not_internet net → is_internet (record { v6 = false; bits = last_of net + 1 }) ≡ true
behind_public net inside = list_all_member (λ net. is_internet (record { v6 = false; bits = last_of net + 1 })) not_internet refl net inside

-- they are all of IPv4
private_v4 : (net : Block) → Contains not_internet net → net.base.v6 ≡ false
private_v4 net inside =
    not-true net.base.v6 (list_all_member (λ net. not net.base.v6) not_internet refl net inside)

public_v6 : (bits : ℕ) → among not_internet (record { v6 = true; bits = bits }) ≡ false
public_v6 bits = refl

-- of IPv6, where it meets 2000::/3
v6_meets : (p : Block) → p.base.v6 ≡ true → list_any (λ net. overlap p net) internet_nets ≡ true → overlap p (v6_net GLOBAL_V6_BASE GLOBAL_V6_LEN) ≡ true
v6_meets p family h =
    elim (or_cases (overlap p (v4_net 0 0)) (overlap p (v6_net GLOBAL_V6_BASE GLOBAL_V6_LEN) || false) h) [
      | inl v4 ↦
          let at = (overlap_means (overlap p (v4_net 0 0)) p (v4_net 0 0) refl).0 v4 in
          let here = (holds_parts p at.0 at.1).0 in
          let there = (holds_parts (v4_net 0 0) at.0 at.2).0 in
          let bad : true ≡ false = sym family ∙ (here ∙ sym there) in
          absurd (cc)
      | inr more ↦ elim (or_cases (overlap p (v6_net GLOBAL_V6_BASE GLOBAL_V6_LEN)) false more) [
        | inl v6 ↦ v6
        | inr none ↦ absurd (cc)
      ]
    ]

v6_public : (addr : Address) → holds (v6_net GLOBAL_V6_BASE GLOBAL_V6_LEN) addr ≡ true → is_internet addr ≡ true
v6_public addr h =
    let family : true ≡ addr.v6 = (holds_parts (v6_net GLOBAL_V6_BASE GLOBAL_V6_LEN) addr h).0 in
    let wide : among internet_nets addr ≡ true = list_any_is (λ net. holds net addr) internet_nets (v6_net GLOBAL_V6_BASE GLOBAL_V6_LEN) (1, omega arith, refl) h in
    let none : among not_internet addr ≡ false = subst (λ (v6 : Bool). among not_internet (record { v6 = v6; bits = addr.bits }) ≡ false) family (public_v6 addr.bits) in
    and_from (among internet_nets addr) (not (among not_internet addr)) wide (ap not none)

-- of IPv4, the base or what is behind a prefix that has the base
v4_public : (bits : ℕ) → bits < family_size false → among not_internet (record { v6 = false; bits = bits }) ≡ false → is_internet (record { v6 = false; bits = bits }) ≡ true
v4_public bits small none =
    let addr : Address = record { v6 = false; bits = bits } in
    let held : holds (v4_net 0 0) addr ≡ true = holds_from (v4_net 0 0) addr refl (omega arith) (omega arith) in
    let wide : among internet_nets addr ≡ true = list_any_is (λ net. holds net addr) internet_nets (v4_net 0 0) (0, omega arith, refl) held in
    and_from (among internet_nets addr) (not (among not_internet addr)) wide (ap not none)

v4_shares : (p : Block) → p.base.v6 ≡ false → last_of p < family_size p.base.v6 → list_any (λ net. is_within p net) not_internet ≡ false
    → (addr : Address) × (holds p addr ≡ true) × (is_internet addr ≡ true)
v4_shares p family ends none =
    let top : last_of p < family_size false = subst (λ (v6 : Bool). last_of p < family_size v6) family ends in
    let at : Address = record { v6 = false; bits = p.base.bits } in
    elim (cases_Bool (among not_internet at)) [
      | inl private ↦
          let found = list_any_found (λ net. holds net at) not_internet private in
          let net = found.0 in
          let here = holds_parts net at found.2 in
          let out : is_within p net ≡ false = list_any_member (λ net. is_within p net) not_internet none net found.1 in
          let next : Address = record { v6 = false; bits = last_of net + 1 } in
          let past : last_of net < last_of p = beyond net here.0 here.1 out in
          (next, holds_from p next family (omega arith) (omega arith), behind_public net found.1)
      | inr public ↦ (at, holds_from p at family (omega arith) (omega arith), v4_public p.base.bits (omega arith) public)
    ]
  where
    beyond : (net : Block) → net.base.v6 ≡ false → net.base.bits ≤ p.base.bits → is_within p net ≡ false → last_of net < last_of p
    beyond net v4 low out = elim (cases_lt (last_of net) (last_of p)) [
      | inl above ↦ above
      | inr inside ↦
          let same : beq p.base.v6 net.base.v6 ≡ true = beq-from p.base.v6 net.base.v6 (family ∙ sym v4) in
          let within : is_within p net ≡ true = and_from (beq p.base.v6 net.base.v6 && nat_le net.base.bits p.base.bits) (nat_le (last_of p) (last_of net))
          (and_from (beq p.base.v6 net.base.v6) (nat_le net.base.bits p.base.bits) same (le-leb net.base.bits p.base.bits low)) (le-leb (last_of p) (last_of net) inside) in
          absurd (both_ways (is_within p net) out within)
    ]

-- a route that passes the test has a public address
shares_public : (p : Block) → last_of p < family_size p.base.v6 → meets_internet p ≡ true → (addr : Address) × (holds p addr ≡ true) × (is_internet addr ≡ true)
shares_public p ends h =
    let parts = and_parts (list_any (λ net. overlap p net) internet_nets) (not (list_any (λ net. is_within p net) not_internet)) h in
    elim (cases_Bool p.base.v6) [
      | inl v6 ↦
          let net = v6_net GLOBAL_V6_BASE GLOBAL_V6_LEN in
          let at = (overlap_means (overlap p net) p net refl).0 (v6_meets p v6 parts.0) in
          (at.0, at.1, v6_public at.0 at.2)
      | inr v4 ↦ v4_shares p v4 ends (not-true (list_any (λ net. is_within p net) not_internet) parts.1)
    ]

-- and a route with one passes it
public_meets : (p : Block) (addr : Address) → holds p addr ≡ true → is_internet addr ≡ true → meets_internet p ≡ true
public_meets p addr held public =
    let parts = and_parts (among internet_nets addr) (not (among not_internet addr)) public in
    let wide = any_weaker (λ net. holds net addr) (λ net. overlap p net) internet_nets (λ net there. (overlap_means (overlap p net) p net refl).1 (addr, held, there)) parts.0 in
    let none : list_any (λ net. is_within p net) not_internet ≡ false = false_from_ne_true (list_any (λ net. is_within p net) not_internet) (λ found.
    both_ways (among not_internet addr) (not-true (among not_internet addr) parts.1)
    (any_weaker (λ net. is_within p net) (λ net. holds net addr) not_internet (λ net within. (within_means (is_within p net) p net refl).0 within addr held) found)) in
    and_from (list_any (λ net. overlap p net) internet_nets) (not (list_any (λ net. is_within p net) not_internet)) wide (ap not none)

-- some address of the route is one of the internet
pub internet_shared : (p : Block) → last_of p < family_size p.base.v6
    → (list_any (λ net. overlap p net) internet_nets && not (list_any (λ net. is_within p net) not_internet)) ≡ some_address (λ addr. holds p addr && is_internet addr)
internet_shared p ends = same_tests (meets_internet p) (some_address both) to from
  where
    both : Address → Bool
    both addr = holds p addr && is_internet addr

    to : meets_internet p ≡ true → some_address both ≡ true
    to h =
        let at = shares_public p ends h in
        address_found both at.0 (small_at p at.0 ends at.1) (and_from (holds p at.0) (is_internet at.0) at.1 at.2)

    from : some_address both ≡ true → meets_internet p ≡ true
    from h =
        let found = address_finds both h in
        let parts = and_parts (holds p found.0) (is_internet found.0) found.2 in
        public_meets p found.0 parts.0 parts.1

-- a route has an address
pub route_some : (p : Block) → last_of p < family_size p.base.v6 → some_address (λ addr. holds p addr && true) ≡ true
route_some p ends =
    let held : holds p p.base ≡ true = holds_from p p.base refl (omega arith) (omega arith) in
    address_found (λ addr. holds p addr && true) p.base (small_at p p.base ends held) (and_from (holds p p.base) true held refl)
