-- The numbers that a prefix holds.
use Rattle.std.proofs.Common.{◌≡◌, ◌<◌, ◌≤◌, ◌+◌, ◌-◌, ◌*◌, ◌/◌, ◌%◌, ◌^◌, ℕ, suc, Bool, true, false, arith, sym, ap, ◌∙◌, refl, inl, inr}
use Rattle.std.proofs.Math.Nat.{mul-le-mul_left}
use Rattle.std.proofs.Math.Pow.{pow_pos}
use Rattle.std.proofs.lemmas.Nat.{pow-add}
use Rattle.std.specs.Prelude.{IsTrue, ◌↔◌, ◌&&◌, nat_le}
use Rattle.std.specs.Bool.{beq}
use Rattle.std.proofs.lemmas.Bool.{and_parts, and_from, leb-true, le-leb, cases_lt}
use Rattle.tail_base.proofs.Bools.{beq-from, beq-true}
use Rattle.net_addr.specs.Blocks.{IsWithin, Overlaps, holds, is_within, last_of, overlap}
use Rattle.net_addr.specs.Bits.{family_bits, family_size, Address, Block, IsBlock, size_of}

-- a block that begins at a multiple of its size ends where the next block may begin
pub aligned_fits : (b s t : ℕ) → 0 < s → b % s ≡ 0 → b < s * t → b + s ≤ s * t
aligned_fits b s t pos e lt =
    let whole : s * (b / s) ≡ b = omega arith in
    let below : b / s < t = grind (arith, mul-le-mul_left) in
    let more : s * suc (b / s) ≤ s * t = mul-le-mul_left s below in
    grind arith

pub family_is : (v6 : Bool) → family_size v6 ≡ 2 ^ family_bits v6
family_is true = refl
family_is false = refl

pub family_top : (v6 : Bool) → family_size v6 ≤ 2 ^ 128
family_top true = omega arith
family_top false = omega arith

pub prefix_fits : (p : Block) → IsBlock p → p.base.bits + size_of p ≤ family_size p.base.v6
prefix_fits p b =
    let whole : (family_bits p.base.v6 - p.len) + p.len ≡ family_bits p.base.v6 = omega (arith, b.fits) in
    let cut : 2 ^ (family_bits p.base.v6 - p.len) * 2 ^ p.len ≡ family_size p.base.v6 =
    sym (pow-add 2 (family_bits p.base.v6 - p.len) p.len) ∙ ap (λ k. 2 ^ k) whole ∙ sym (family_is p.base.v6) in
    rw (← cut) (aligned_fits p.base.bits (size_of p) (2 ^ p.len) (pow_pos _) b.aligned (rw cut b.in_family))

base_below : (p : Block) → p.base.bits ≤ last_of p
base_below p = omega arith

pub holds_from : (p : Block) (addr : Address) → p.base.v6 ≡ addr.v6 → p.base.bits ≤ addr.bits → addr.bits ≤ last_of p → holds p addr ≡ true
holds_from p addr family low high =
    and_from _ _ (and_from _ _ (beq-from _ _ family) (le-leb _ _ low)) (le-leb _ _ high)

pub holds_parts : (p : Block) (addr : Address) → holds p addr ≡ true → (p.base.v6 ≡ addr.v6) × (p.base.bits ≤ addr.bits) × (addr.bits ≤ last_of p)
holds_parts p addr h =
    let parts = and_parts (beq p.base.v6 addr.v6 && nat_le p.base.bits addr.bits) (nat_le addr.bits (last_of p)) h in
    let front = and_parts (beq p.base.v6 addr.v6) (nat_le p.base.bits addr.bits) parts.0 in
    (beq-true _ _ front.0, leb-true _ _ front.1, leb-true _ _ parts.1)

-- the ends of the inner prefix lie in the outer one
pub within_is : (p q : Block) → IsTrue (is_within p q) ↔ IsWithin p q
within_is p q = (to, from)
  where
    to : is_within p q ≡ true → IsWithin p q
    to h addr held =
        let parts = and_parts (beq p.base.v6 q.base.v6 && nat_le q.base.bits p.base.bits) (nat_le (last_of p) (last_of q)) h in
        let front = and_parts (beq p.base.v6 q.base.v6) (nat_le q.base.bits p.base.bits) parts.0 in
        let here = holds_parts p addr held in
        let low = leb-true _ _ front.1 in
        let high = leb-true _ _ parts.1 in
        holds_from q addr (sym (beq-true _ _ front.0) ∙ here.0) (omega arith) (omega arith)

    from : IsWithin p q → is_within p q ≡ true
    from h =
        let base : Address = p.base in
        let top : Address = record { v6 = p.base.v6; bits = last_of p } in
        let low = holds_parts q base (h base (holds_from p base refl (omega arith) (base_below p))) in
        let high = holds_parts q top (h top (holds_from p top refl (base_below p) (omega arith))) in
        and_from _ _ (and_from _ _ (beq-from _ _ (sym low.0)) (le-leb _ _ low.1)) (le-leb _ _ high.2)

pub within_means : (b : Bool) (p q : Block) → b ≡ is_within p q → IsTrue b ↔ IsWithin p q
within_means b p q is = rw is (within_is p q)

-- the higher of the two bases lies in both prefixes
overlap_is : (p q : Block) → IsTrue (overlap p q) ↔ Overlaps p q
overlap_is p q = (to, from)
  where
    to : overlap p q ≡ true → Overlaps p q
    to h =
        let parts = and_parts (beq p.base.v6 q.base.v6 && nat_le p.base.bits (last_of q)) (nat_le q.base.bits (last_of p)) h in
        let front = and_parts (beq p.base.v6 q.base.v6) (nat_le p.base.bits (last_of q)) parts.0 in
        let family = beq-true _ _ front.0 in
        let low = leb-true p.base.bits (last_of q) front.1 in
        let high = leb-true q.base.bits (last_of p) parts.1 in
        elim (cases_lt p.base.bits q.base.bits) [
          | inl above ↦ (q.base, holds_from p q.base family (omega arith) high, holds_from q q.base refl (omega arith) (base_below q))
          | inr below ↦ (p.base, holds_from p p.base refl (omega arith) (base_below p), holds_from q p.base (sym family) below low)
        ]

    from : Overlaps p q → overlap p q ≡ true
    from (addr, first, second) =
        let here = holds_parts p addr first in
        let there = holds_parts q addr second in
        let same : beq p.base.v6 q.base.v6 ≡ true = beq-from _ _ (here.0 ∙ sym there.0) in
        and_from _ _ (and_from _ _ same (le-leb p.base.bits (last_of q) (omega arith))) (le-leb q.base.bits (last_of p) (omega arith))

pub overlap_means : (b : Bool) (p q : Block) → b ≡ overlap p q → IsTrue b ↔ Overlaps p q
overlap_means b p q is = rw is (overlap_is p q)
