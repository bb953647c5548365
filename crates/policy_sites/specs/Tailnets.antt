-- The addresses of tailnets, of both families.
use Rattle.std.specs.Prelude.{◌||◌, Bool}
use Rattle.net_addr.specs.Bits.{Address, Block}
use Rattle.net_addr.specs.Blocks.{holds, overlap}
use Rattle.net_addr.specs.Tailnet.{tailnet_v4, tailnet_v6}

-- the address is one of them
abbrev pub is_tailnet : Address → Bool
is_tailnet addr = holds tailnet_v4 addr || holds tailnet_v6 addr

-- the route has an address of them
abbrev pub overlaps_tailnet : Block → Bool
overlaps_tailnet r = overlap r tailnet_v4 || overlap r tailnet_v6
