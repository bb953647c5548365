-- DNS settings (`tailcfg.DNSConfig`) as they are read.
use Rattle.std.specs.Prelude.{ℕ, List, [], ◌∷◌, ◌++◌, Option, Some, None, Result, Ok, codes}
use Rattle.std.specs.Str.{bytes_eq}
use Rattle.serde_json.specs.Data.{Data, Members, no_members, member}
use Rattle.serde_json.specs.Find.{as_object}
use Rattle.net_addr.specs.AddrTexts.{addr_of_text}
use Rattle.net_addr.specs.Bits.{Address}
use Rattle.tail_base.specs.Steps.{◌>>=◌, refuse_unless}
use Rattle.tailcfg.specs.declared.dns.Dns.{Dns}
use Rattle.tailcfg.specs.declared.dns.DnsExtra.{DnsExtra}
use Rattle.tailcfg.specs.declared.dns.DnsRoute.{DnsRoute}
use Rattle.wire_json.specs.Body.{unless_null}
use Rattle.wire_write.specs.Dns.{record_type}
use Rattle.response_read.specs.Members.{all_read, due, fitting}
use Rattle.response_read.specs.Values.{truth_at, spelled_at, words_at}
use Rattle.response_read.specs.declared.misfit.Misfit.{Misfit}
use Rattle.response_read.specs.declared.misfit.Misfit.TheVariants.{NotResponse}

-- a resolver (`dnstype.Resolver`)
abbrev pub resolver_at : Data → Result Address Misfit
resolver_at = due (codes "Addr") (spelled_at addr_of_text)

-- a record (`tailcfg.DNSRecord`), whose type is that of its address
unfoldable pub record_at : Data → Result DnsExtra Misfit
record_at d = do
  name ← due (codes "Name") words_at d
  kind ← due (codes "Type") words_at d
  addr ← due (codes "Value") (spelled_at addr_of_text) d
  _ ← refuse_unless (bytes_eq kind (record_type addr)) NotResponse
  Ok (record { name = name; addr = addr })

-- the routes, and behind them that of a suffix, unless its resolvers are absent
abbrev pub route_behind : List DnsRoute → List ℕ → Option Data → Result (List DnsRoute) Misfit
route_behind before suffix None = Ok before
route_behind before suffix (Some d) = all_read resolver_at d >>= λ resolvers. Ok (before ++ record { suffix = suffix; resolvers = resolvers } ∷ [])

-- the routes, and behind them those of members: their suffixes stand in byte order, each once
abbrev pub routes_behind : List DnsRoute → Members → Result (List DnsRoute) Misfit
routes_behind before no_members = Ok before
routes_behind before (member suffix d ms) = route_behind before suffix (unless_null d) >>= λ more. routes_behind more ms

-- the resolvers of suffixes
abbrev pub routes_at : Data → Result (List DnsRoute) Misfit
routes_at d = fitting (as_object d) >>= routes_behind []

-- DNS settings, of which each field is there
unfoldable pub dns_settings_at : Data → Result Dns Misfit
dns_settings_at d = do
  domains ← due (codes "Domains") (all_read words_at) d
  extras ← due (codes "ExtraRecords") (all_read record_at) d
  proxied ← due (codes "Proxied") truth_at d
  resolvers ← due (codes "Resolvers") (all_read resolver_at) d
  routes ← due (codes "Routes") routes_at d
  Ok (record { settings = record { domains = domains; proxied = proxied; resolvers = resolvers; routes = routes }; extras = extras })
