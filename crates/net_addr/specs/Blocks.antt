-- Which addresses a prefix holds.
use Rattle.std.specs.Prelude.{◌≡◌, ◌+◌, ◌-◌, ℕ, Bool, true, ◌&&◌, nat_le}
use Rattle.std.specs.Bool.{beq}
use Rattle.net_addr.specs.Bits.{Address, Block, family_bits, size_of}

-- the highest address of a prefix, as a number
abbrev pub last_of : Block → ℕ
last_of p = p.base.bits + (size_of p - 1)

-- an address of the family, from the base to the highest
abbrev pub holds : Block → Address → Bool
holds p addr = beq p.base.v6 addr.v6 && nat_le p.base.bits addr.bits && nat_le addr.bits (last_of p)

-- each address of the inner one is one of the outer
abbrev pub IsWithin : Block → Block → Type 0
IsWithin inner outer = (addr : Address) → holds inner addr ≡ true → holds outer addr ≡ true

-- some address is one of both
abbrev pub Overlaps : Block → Block → Type 0
Overlaps p q = (addr : Address) × (holds p addr ≡ true) × (holds q addr ≡ true)

-- the same as tests of the ends
abbrev pub is_within : Block → Block → Bool
is_within inner outer = beq inner.base.v6 outer.base.v6 && nat_le outer.base.bits inner.base.bits && nat_le (last_of inner) (last_of outer)

abbrev pub overlap : Block → Block → Bool
overlap p q = beq p.base.v6 q.base.v6 && nat_le p.base.bits (last_of q) && nat_le q.base.bits (last_of p)

-- the prefix of one address
abbrev pub prefix_of_addr : Address → Block
prefix_of_addr addr = record { base = addr; len = family_bits addr.v6 }
