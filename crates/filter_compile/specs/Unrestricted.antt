-- The packet filter of a machine if no policy is in force.
use Rattle.std.specs.Prelude.{◌≡◌, ◌<◌, ◌^◌, true, false, List, [], ◌∷◌, map}
use Rattle.net_addr.specs.Bits.{Block}
use Rattle.net_addr.specs.Blocks.{prefix_of_addr}
use Rattle.range_sets.specs.Canonical.{canonical}
use Rattle.tailcfg.specs.declared.filter.DestRange.{DestRange}
use Rattle.tailcfg.specs.declared.filter.FilterRule.{FilterRule}
use Rattle.tailcfg.specs.declared.filter.Sources.TheVariants as src
use Rattle.policy_sites.specs.Sites.{serves}
use Rattle.policy_sites.specs.declared.site.Site.{Site}

-- one of the machine's addresses is of IPv4, and the other of IPv6
pub record HasBothFamilies (m : Site) : Type 0 where
  pub v4 : m.v4.v6 ≡ false
  pub v4_small : m.v4.bits < 2 ^ 32
  pub v6 : m.v6.v6 ≡ true
  pub v6_small : m.v6.bits < 2 ^ 128

-- a prefix with all ports
abbrev pub at_all_ports : Block → DestRange
at_all_ports to = record { to = to; ports = record { first = 0; last = 65535 } }

-- the prefixes of the machine's two addresses
abbrev pub own_two : Site → List Block
own_two m = prefix_of_addr m.v4 ∷ prefix_of_addr m.v6 ∷ []

-- one rule: from everywhere to what the machine serves, by ICMP, TCP, UDP and ICMPv6
abbrev pub unrestricted : Site → List FilterRule
unrestricted m = record {
  sources = src.Any;
  dests = map at_all_ports (canonical (serves m));
  protos = 1 ∷ 6 ∷ 17 ∷ 58 ∷ [];
} ∷ []
