-- DNS settings (`tailcfg.DNSConfig`) as JSON, keys in byte order.
use Rattle.std.specs.Prelude.{ℕ, List, fold, if◌then◌else◌, codes}
use Rattle.serde_json.specs.Data.{Data, string, boolean, object, Members, no_members, member, put}
use Rattle.net_addr.specs.Bits.{Address}
use Rattle.net_addr.specs.AddrTexts.{addr_text}
use Rattle.tailcfg.specs.declared.dns.Dns.{Dns}
use Rattle.tailcfg.specs.declared.dns.DnsExtra.{DnsExtra}
use Rattle.tailcfg.specs.declared.dns.DnsRoute.{DnsRoute}
use Rattle.wire_write.specs.Parts.{array_data}

-- `AAAA` for an IPv6 address, else `A`
abbrev pub record_type : Address → List ℕ
record_type addr = if addr.v6 then codes "AAAA" else codes "A"

-- an extra record (`tailcfg.DNSRecord`)
unfoldable pub extra_data : DnsExtra → Data
extra_data e = object (
    member (codes "Name") (string e.name) (
    member (codes "Type") (string (record_type e.addr)) (
    member (codes "Value") (string (addr_text e.addr)) no_members)))

-- a resolver (`dnstype.Resolver`)
unfoldable pub resolver_data : Address → Data
resolver_data addr = object (member (codes "Addr") (string (addr_text addr)) no_members)

-- the members with the resolvers of one more suffix; `put` keeps them in byte order
abbrev pub with_route : Members → DnsRoute → Members
with_route ms r = put r.suffix (array_data resolver_data r.resolvers) ms

-- a member for each suffix
unfoldable pub routes_data : List DnsRoute → Data
routes_data rs = object (fold with_route no_members rs)

-- all fields are always written
unfoldable pub dns_data : Dns → Data
dns_data d = object (
    member (codes "Domains") (array_data string d.settings.domains) (
    member (codes "ExtraRecords") (array_data extra_data d.extras) (
    member (codes "Proxied") (boolean d.settings.proxied) (
    member (codes "Resolvers") (array_data resolver_data d.settings.resolvers) (
    member (codes "Routes") (routes_data d.settings.routes) no_members)))))
