-- Ranges joined hold the same ports, and stay apart.
use Rattle.std.proofs.Common.{◌≡◌, ◌+◌, ◌<◌, ◌≤◌, ◌^◌, ℕ, Bool, true, false, ◌||◌, List, [], ◌∷◌, length, min, max, arith, refl, sym, ap, ◌∙◌}
use Rattle.std.proofs.Math.Bool.{or_assoc}
use Rattle.std.proofs.lemmas.Bool.{and_from, le-leb}
use Rattle.std.proofs.lemmas.Bool.Decides.{nat_tests}
use Rattle.port_sets.specs.declared.range.PortRange.{PortRange}
use Rattle.port_sets.specs.Ranges.{in_piece, holds, IsApart, IsPorts, is_before, joined, inserted, merged_into}
use Rattle.tail_base.proofs.Bools.{or_swap}

-- two ranges with no port between them, joined
in_joined : (a b : PortRange) (port : ℕ) → is_before a b ≡ false → is_before b a ≡ false → in_piece port (joined a b) ≡ (in_piece port a || in_piece port b)
in_joined a b port p q = grind (arith, nat_tests)

pub holds_inserted : (range : PortRange) (ranges : List PortRange) (port : ℕ) → holds (inserted range ranges) port ≡ (in_piece port range || holds ranges port)
holds_inserted range [] port = refl
holds_inserted range (other ∷ others) port = by_first (λ r. holds_inserted r others port) (is_before other range) (is_before range other) refl refl
  where
    by_first : ((r : PortRange) → holds (inserted r others) port ≡ (in_piece port r || holds others port))
        → (x y : Bool) → is_before other range ≡ x → is_before range other ≡ y
        → holds (inserted range (other ∷ others)) port ≡ (in_piece port range || (in_piece port other || holds others port))
    by_first more true y p q =
        rw p (ap (λ t. in_piece port other || t) (more range) ∙ or_swap (in_piece port other) (in_piece port range) (holds others port))
    by_first more false true p q =
        rw (p, q) (ap (λ t. in_piece port range || t) (more other))
    by_first more false false p q =
        rw (p, q) (more (joined range other) ∙ ap (λ t. t || holds others port) (in_joined range other port q p) ∙ or_assoc (in_piece port range) (in_piece port other) (holds others port))

pub apart_weaker : (least more : ℕ) (ranges : List PortRange) → least ≤ more → IsApart more ranges → IsApart least ranges
apart_weaker least more [] below h = tt
apart_weaker least more (range ∷ ranges) below h = (omega (arith, h.0), h.1, h.2, h.3)

pub apart_inserted : (least : ℕ) (range : PortRange) (ranges : List PortRange) → least ≤ range.first → range.first ≤ range.last → range.last < 2 ^ 16
    → IsApart least ranges → IsApart least (inserted range ranges)
apart_inserted least range [] low order high h = (low, order, high, tt)
apart_inserted least range (other ∷ others) low order high h =
    by_first (λ m r. apart_inserted m r others) (is_before other range) (is_before range other) refl refl
  where
    by_first : ((m : ℕ) (r : PortRange) → m ≤ r.first → r.first ≤ r.last → r.last < 2 ^ 16 → IsApart m others → IsApart m (inserted r others))
        → (x y : Bool) → is_before other range ≡ x → is_before range other ≡ y → IsApart least (inserted range (other ∷ others))
    by_first more true y p q =
        let gap : other.last + 1 < range.first = grind (arith, nat_tests) in
        rw p (h.0, h.1, h.2, more (other.last + 2) range (omega arith) order high h.3)
    by_first more false true p q =
        let gap : range.last + 1 < other.first = grind (arith, nat_tests) in
        let later = apart_weaker (range.last + 2) (other.last + 2) others (omega (arith, h.1)) h.3 in
        rw (p, q) (low, order, high, more (range.last + 2) other (omega arith) h.1 h.2 later)
    by_first more false false p q =
        let later = apart_weaker least (other.last + 2) others (omega (arith, h.0, h.1)) h.3 in
        let first : least ≤ min range.first other.first = grind arith in
        let both : min range.first other.first ≤ max range.last other.last = grind arith in
        let last : max range.last other.last < 2 ^ 16 = grind arith in
        rw (p, q) (more least (joined range other) first both last later)

pub holds_merged : (ranges pieces : List PortRange) (port : ℕ) → holds (merged_into ranges pieces) port ≡ (holds ranges port || holds pieces port)
holds_merged ranges [] port = sym (or_none (holds ranges port))
  where
    or_none : (b : Bool) → (b || false) ≡ b
    or_none true = refl
    or_none false = refl
holds_merged ranges (piece ∷ pieces) port =
    holds_merged (inserted piece ranges) pieces port ∙ ap (λ t. t || holds pieces port) (holds_inserted piece ranges port) ∙ or_assoc (in_piece port piece) (holds ranges port) (holds pieces port) ∙ or_swap (in_piece port piece) (holds ranges port) (holds pieces port)

some_inserted : (range : PortRange) (ranges : List PortRange) → 0 < length (inserted range ranges)
some_inserted range [] = omega arith
some_inserted range (other ∷ others) = by_first (λ r. some_inserted r others) (is_before other range) (is_before range other) refl refl
  where
    by_first : ((r : PortRange) → 0 < length (inserted r others)) → (x y : Bool) → is_before other range ≡ x → is_before range other ≡ y → 0 < length (inserted range (other ∷ others))
    by_first more true y p q = rw p (omega arith)
    by_first more false true p q = rw (p, q) (omega arith)
    by_first more false false p q = rw (p, q) (more (joined range other))

pub ports_inserted : (range : PortRange) (ranges : List PortRange) → range.first ≤ range.last → range.last < 2 ^ 16 → IsApart 0 ranges → IsPorts (inserted range ranges)
ports_inserted range ranges order high h = record {
  some = some_inserted range ranges;
  apart = apart_inserted 0 range ranges (omega arith) order high h;
}

pub one_held : (ranges : List PortRange) → IsPorts ranges → (port : ℕ) × (port < 2 ^ 16) × (holds ranges port ≡ true)
one_held [] h = absurd (omega (arith, h.some))
one_held (range ∷ ranges) h =
    let apart = h.apart in
    let here : in_piece range.first range ≡ true = and_from _ _ (le-leb range.first range.first (omega arith)) (le-leb range.first range.last apart.1) in
    (range.first, omega (arith, apart.1, apart.2), ap (λ t. t || holds ranges range.first) here)
