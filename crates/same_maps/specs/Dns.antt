-- Whether the DNS of two maps is the same.
use Rattle.std.specs.Prelude.{ℕ, Bool, List, ◌&&◌}
use Rattle.std.specs.Bool.{beq}
use Rattle.std.specs.Cmp.Lexicographic.{pointwise}
use Rattle.std.specs.Str.{bytes_eq}
use Rattle.net_rows.specs.Damage.{address_eq}
use Rattle.tailcfg.specs.declared.dns.Dns.{Dns}
use Rattle.tailcfg.specs.declared.dns.DnsExtra.{DnsExtra}
use Rattle.tailcfg.specs.declared.dns.DnsRoute.{DnsRoute}
use Rattle.tailcfg.specs.declared.dns.DnsSettings.{DnsSettings}

-- a suffix and its resolvers
abbrev pub same_dns_route : DnsRoute → DnsRoute → Bool
same_dns_route a b = bytes_eq a.suffix b.suffix && pointwise address_eq a.resolvers b.resolvers

abbrev pub same_dns_settings : DnsSettings → DnsSettings → Bool
same_dns_settings a b =
    pointwise bytes_eq a.domains b.domains && beq a.proxied b.proxied && pointwise address_eq a.resolvers b.resolvers
    && pointwise same_dns_route a.routes b.routes

-- a name and its address
abbrev pub same_extra : DnsExtra → DnsExtra → Bool
same_extra a b = bytes_eq a.name b.name && address_eq a.addr b.addr

-- record by record, in their order
abbrev pub same_extras : List DnsExtra → List DnsExtra → Bool
same_extras a b = pointwise same_extra a b

abbrev pub same_dns : Dns → Dns → Bool
same_dns a b = same_dns_settings a.settings b.settings && same_extras a.extras b.extras
