-- Where the addresses of tailnets lie.
use Rattle.std.specs.Prelude.{true, false}
use Rattle.net_addr.specs.declared.tailnet.TheConstants.{TAILNET_V4_BASE, TAILNET_V4_LEN, TAILNET_V6_BASE, TAILNET_V6_LEN}
use Rattle.net_addr.specs.Bits.{Block}

-- 100.64.0.0/10
abbrev pub tailnet_v4 : Block
tailnet_v4 = record { base = record { v6 = false; bits = TAILNET_V4_BASE }; len = TAILNET_V4_LEN }

-- fd7a:115c:a1e0::/48
abbrev pub tailnet_v6 : Block
tailnet_v6 = record { base = record { v6 = true; bits = TAILNET_V6_BASE }; len = TAILNET_V6_LEN }
