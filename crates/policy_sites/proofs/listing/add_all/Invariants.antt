use Rattle.std.proofs.Common.{◌≡◌, ◌||◌, drop}
use Rattle.net_addr.specs.Bits.{Address}
use Rattle.range_sets.specs.Sets.{some_holds}
use Rattle.policy_sites.proofs.listing.add_all.Given as goal

abbrev pub invariant-loop-net : goal.invariant-loop-net
invariant-loop-net l = (addr : Address) → (some_holds l.out addr || some_holds (drop l.net-index l.more) addr) ≡ (some_holds l.fn.out addr || some_holds l.more addr)
