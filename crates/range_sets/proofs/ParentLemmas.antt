-- The prefix one bit shorter is a prefix, and holds what the prefix holds.
use Rattle.std.proofs.Common.{◌≡◌, suc, ◌-◌, ◌^◌, ◌<◌, Bool, true, arith, subst}
use Rattle.std.proofs.lemmas.Nat.{mod_below, pow_pos}
use Rattle.net_addr.specs.Bits.{Block, IsBlock, family_bits, size_of}
use Rattle.net_addr.specs.Blocks.{IsWithin, holds}
use Rattle.net_addr.proofs.BlockLemmas.{holds_parts}
use Rattle.range_sets.specs.Canonical.{parent}
use Rattle.range_sets.proofs.CanonicalLemmas.{holds_from, parent_base, parent_size, power_multiple}
use Rattle.range_sets.proofs.MultipleLemmas.{floor_is, mod_of_multiple, multiple_add, multiple_from_mod, multiple_lower, multiple_next}

parent_block : (p : Block) → IsBlock p → 0 < p.len → IsBlock (parent p)
parent_block p b pos =
    let fits = b.fits in let below = b.in_family in
    let room = pow_pos (suc (family_bits p.base.v6 - p.len)) in
    let aligned = mod_of_multiple _ _ room (floor_is (2 ^ suc (family_bits p.base.v6 - p.len)) p.base.bits room) in
    record {
      in_family = omega arith;
      fits = omega arith;
      aligned = rw (parent_base p, parent_size p pos fits) aligned;
    }

parent_holds : (p : Block) → IsBlock p → 0 < p.len → IsWithin p (parent p)
parent_holds p b pos addr e =
    let fits = b.fits in let bits = family_bits p.base.v6 - p.len in
    let one : 0 < size_of p = pow_pos bits in let room = pow_pos (suc bits) in
    let base = parent_base p in let size = parent_size p pos fits in
    let parts = holds_parts p addr e in let low = parts.1 in let high = parts.2 in
    let rest = mod_below p.base.bits (2 ^ suc bits) room in
    let floor = floor_is (2 ^ suc bits) p.base.bits room in
    let top = multiple_lower bits (suc bits) _ (omega arith) (multiple_add (2 ^ suc bits) _ (2 ^ suc bits) floor (power_multiple (suc bits) (suc bits) (omega arith))) in
    let within = multiple_next (2 ^ bits) p.base.bits _ (multiple_from_mod (2 ^ bits) p.base.bits one b.aligned) top (omega arith) in
    let P : Bool → Type 0 = λ f. holds (parent p) (record { v6 = f; bits = addr.bits }) ≡ true in
    subst P parts.0 (holds_from (parent p) addr.bits (omega arith) (omega arith))

pub parent_is : (p : Block) → IsBlock p → 0 < p.len → IsBlock (parent p) × IsWithin p (parent p)
parent_is p b pos = (parent_block p b pos, parent_holds p b pos)
