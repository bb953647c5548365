-- The canonical prefixes of a set of addresses: those that lie wholly inside it while the prefix one
-- bit shorter doesn't.
use Rattle.std.specs.Prelude.{◌≡◌, ℕ, zero, suc, ◌<◌, ◌+◌, ◌-◌, ◌*◌, ◌%◌, ◌^◌, ◌&&◌, ◌↔◌, IsTrue, Bool, true, false, List, [], ◌∷◌, ◌++◌, nat_lt, Contains, AllPairs, if◌then◌else◌}
use Rattle.std.specs.Bool.{beq}
use Rattle.net_addr.specs.Bits.{Address, Block, IsBlock, family_bits, family_size, size_of}
use Rattle.net_addr.specs.Blocks.{holds}
use Rattle.range_sets.specs.Sets.{some_holds}

-- the prefix one bit shorter that holds the same addresses and as many others
abbrev pub parent : Block → Block
parent p = record { base = record { v6 = p.base.v6; bits = p.base.bits - p.base.bits % (2 * size_of p) }; len = p.len - 1 }

-- Each address of the prefix is in the set, and some address of its parent, if it has one, isn't.
pub record IsGreatest (held : Address → Bool) (p : Block) : Type 0 where
  pub block : IsBlock p
  pub inside : (addr : Address) → holds p addr ≡ true → held addr ≡ true
  pub greatest : 0 < p.len → (addr : Address) × (holds (parent p) addr ≡ true) × (held addr ≡ false)

-- IPv4 before IPv6, and in a family by base
abbrev pub comes_before : Block → Block → Bool
comes_before p q = if beq p.base.v6 q.base.v6 then nat_lt p.base.bits q.base.bits else q.base.v6

-- These are the greatest prefixes of the set, all of them and in order, and they hold the set.
pub record IsCanonical (held : Address → Bool) (ps : List Block) : Type 0 where
  pub listed : (p : Block) → Contains ps p ↔ IsGreatest held p
  pub order : AllPairs (λ p q. IsTrue (comes_before p q)) ps
  pub same : (addr : Address) → addr.bits < family_size addr.v6 → some_holds ps addr ≡ held addr

-- the prefix of the 2 ^ n numbers from base on
abbrev pub block_at : Bool → ℕ → ℕ → Block
block_at v6 n base = record { base = record { v6 = v6; bits = base }; len = family_bits v6 - n }

-- each of these numbers passes
unfoldable pub all_in : (ℕ → Bool) → ℕ → ℕ → Bool
all_in passes zero base = passes base
all_in passes (suc n) base = all_in passes n base && all_in passes n (base + 2 ^ n)

-- their prefix, where each of them passes, and else the prefixes of both halves
unfoldable pub greatest_in : Bool → (ℕ → Bool) → ℕ → ℕ → List Block
greatest_in v6 passes zero base = if passes base then block_at v6 0 base ∷ [] else []
greatest_in v6 passes (suc n) base =
    if all_in passes (suc n) base then block_at v6 (suc n) base ∷ []
    else greatest_in v6 passes n base ++ greatest_in v6 passes n (base + 2 ^ n)

-- The canonical prefixes of a set.
abbrev pub canonical : (Address → Bool) → List Block
canonical held =
    greatest_in false (λ x. held (record { v6 = false; bits = x })) 32 0
    ++ greatest_in true (λ x. held (record { v6 = true; bits = x })) 128 0
