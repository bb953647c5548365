-- Prefixes as texts: an address, a slash, and the length in decimal.
use Rattle.std.specs.Prelude.{ℕ, ◌+◌, ◌%◌, ◌==◌, List, ◌++◌, Bool, codes, take, drop, position, Option, Some, None, Result, Ok, Err, if◌then◌else◌}
use Rattle.std.specs.Fmt.{decimal}
use Rattle.tail_base.specs.Numerals.{number_in}
use Rattle.net_addr.specs.declared.prefix_fault.PrefixFault.{PrefixFault}
use Rattle.net_addr.specs.declared.prefix_fault.PrefixFault.TheVariants.{BadAddress, BadLength, HostBitsSet}
use Rattle.net_addr.specs.Bits.{Address, Block, family_bits, size_of}
use Rattle.net_addr.specs.AddrTexts.{addr_of_text, addr_text}

-- the one text that is written of a prefix
abbrev pub prefix_text : Block → List ℕ
prefix_text p = addr_text p.base ++ codes "/" ++ decimal p.len

-- the base has no bit set past the length
abbrev pub is_aligned : Block → Bool
is_aligned p = p.base.bits % size_of p == 0

abbrev pub aligned : Block → Result Block PrefixFault
aligned p = if is_aligned p then Ok p else Err HostBitsSet

-- the prefix of an address and a length, if there is one
abbrev pub with_length : Address → Option ℕ → Result Block PrefixFault
with_length addr None = Err BadLength
with_length addr (Some n) = aligned (record { base = addr; len = n })

-- the prefix of an address, if there is one, and of what follows the slash
abbrev pub with_base : Option Address → List ℕ → Result Block PrefixFault
with_base None ending = Err BadAddress
with_base (Some addr) ending = with_length addr (number_in 3 0 (family_bits addr.v6) ending)

-- the prefix of a text that is divided there
abbrev pub divided : List ℕ → Option ℕ → Result Block PrefixFault
divided text None = Err BadAddress
divided text (Some at) = with_base (addr_of_text (take at text)) (drop (at + 1) text)

-- The prefix that a text spells, or its first fault. The first slash divides it.
abbrev pub prefix_of_text : List ℕ → Result Block PrefixFault
prefix_of_text text = divided text (position (λ b. b == 47) text)
