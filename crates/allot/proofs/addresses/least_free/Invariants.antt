use Rattle.std.proofs.Common.{◌+◌}
use Rattle.net_addr.specs.Bits.{size_of}
use Rattle.allot.proofs.AddressLemmas.{free_at, free_bits}
use Rattle.allot.proofs.SearchLemmas.{LeadsOn}
use Rattle.allot.proofs.addresses.least_free.Given as goal

-- what is left leads to the same answer
abbrev pub invariant-loop-bits : goal.invariant-loop-bits
invariant-loop-bits l =
    LeadsOn (free_at l.prefix l.machines) (l.prefix.base.bits + size_of l.prefix) l.bits (free_bits l.prefix l.machines)
