-- DNS settings are read back.
use Rattle.std.proofs.Common.{◌≡◌, List, [], ◌∷◌, ◌++◌, Some, refl, sym, ap, subst, ◌∙◌, append_assoc, append-nil}
use Rattle.std.specs.Prelude.{codes, Ok, ⊤}
use Rattle.std.specs.List.{AllByRecursion}
use Rattle.std.specs.List.Sorted.{IsStrictlySortedBy}
use Rattle.std.specs.declared.cmp.Ordering.TheVariants.{Less}
use Rattle.serde_json.specs.Data.{Data, boolean, string}
use Rattle.net_addr.specs.AddrTexts.{addr_of_text, addr_text}
use Rattle.net_addr.specs.Bits.{Address}
use Rattle.settings.specs.Settings.{suffix_cmp}
use Rattle.tailcfg.specs.declared.dns.Dns.{Dns}
use Rattle.tailcfg.specs.declared.dns.DnsExtra.{DnsExtra}
use Rattle.tailcfg.specs.declared.dns.DnsRoute.{DnsRoute}
use Rattle.wire_write.specs.Dns.{dns_data, extra_data, record_type, resolver_data, routes_data}
use Rattle.wire_write.specs.Parts.{array_data}
use Rattle.wire_write.specs.Routes.{route_members}
use Rattle.wire_write.proofs.MemberLemmas.{AllBehind}
use Rattle.response_values.specs.Dns.{IsTypedRecord, IsTypedRoute}
use Rattle.response_values.specs.Values.{IsTypedAddr}
use Rattle.wire_laws.specs.Dns.{IsWrittenDns}
use Rattle.wire_laws.proofs.DnsForms.{in_turn}
use Rattle.wire_laws.proofs.FormLemmas.{everywhere}
use Rattle.response_read.specs.Dns.{dns_settings_at, record_at, resolver_at, routes_at, routes_behind}
use Rattle.response_read.specs.Members.{all_read, due}
use Rattle.response_read.specs.Values.{spelled_at, truth_at, words_at}
use Rattle.response_laws.proofs.Reading.{HaveReads, Reads, Rising, arrays_read, objects_read, optional_read}
use Rattle.response_laws.proofs.Steps.{Back, arrays_back}
use Rattle.response_laws.proofs.ValueBack.{addrs_back, text_itself}

resolvers_back : Back resolver_at resolver_data IsTypedAddr
unfolding resolver_data
resolvers_back addr h = addrs_back addr h

record_from : (d : Data) (e : DnsExtra) → due (codes "Name") words_at d ≡ Ok e.name → due (codes "Type") words_at d ≡ Ok (record_type e.addr) → due (codes "Value") (spelled_at addr_of_text) d ≡ Ok e.addr → record_at d ≡ Ok e
unfolding record_at
record_from d e name kind addr = rw (name, kind, addr, text_itself (record_type e.addr))

records_back : Back record_at extra_data IsTypedRecord
unfolding extra_data
records_back e h = record_from (extra_data e) e refl refl (addrs_back e.addr h)

-- ---- routes

routes_more : (before rs : List DnsRoute) → AllByRecursion IsTypedRoute rs → routes_behind before (route_members rs) ≡ Ok (before ++ rs)
routes_more before [] h = ap Ok (sym (append-nil before))
routes_more before (r ∷ rs) h =
    rw (arrays_back resolver_at resolver_data IsTypedAddr resolvers_back r.resolvers h.0) (routes_more (before ++ r ∷ []) rs h.1 ∙ ap Ok (append_assoc before (r ∷ []) rs))

routes_back : (rs : List DnsRoute) → IsStrictlySortedBy suffix_cmp rs → AllByRecursion IsTypedRoute rs → routes_at (routes_data rs) ≡ Ok rs
routes_back rs rise h = ap routes_at (in_turn rs rise) ∙ routes_more [] rs h

-- ---- all settings

dns_from : (d : Data) (x : Dns) → due (codes "Domains") (all_read words_at) d ≡ Ok x.settings.domains → due (codes "ExtraRecords") (all_read record_at) d ≡ Ok x.extras → due (codes "Proxied") truth_at d ≡ Ok x.settings.proxied
    → due (codes "Resolvers") (all_read resolver_at) d ≡ Ok x.settings.resolvers → due (codes "Routes") routes_at d ≡ Ok x.settings.routes → dns_settings_at d ≡ Ok x
unfolding dns_settings_at
dns_from d x domains extras proxied resolvers routes = rw (domains, extras, proxied, resolvers, routes)

pub dns_back : Back dns_settings_at dns_data IsWrittenDns
unfolding dns_data routes_data
dns_back x h =
    dns_from (dns_data x) x (arrays_back words_at string (λ s. ⊤) (λ s k. refl) x.settings.domains (everywhere x.settings.domains))
    (arrays_back record_at extra_data IsTypedRecord records_back x.extras h.0.extras) refl
    (arrays_back resolver_at resolver_data IsTypedAddr resolvers_back x.settings.resolvers h.0.resolvers) (routes_back x.settings.routes h.1 h.0.routes)

-- ---- what is written is read again

resolvers_read : (addr : Address) → IsTypedAddr addr → Reads (resolver_data addr)
unfolding resolver_data
resolvers_read addr h = refl

records_read : (e : DnsExtra) → IsTypedRecord e → Reads (extra_data e)
unfolding extra_data
records_read e h = optional_read ((codes "Name", Some (string e.name)) ∷ (codes "Type", Some (string (record_type e.addr))) ∷ (codes "Value", Some (string (addr_text e.addr))) ∷ []) refl (refl, (refl, (refl, tt)))

all_behind : (r : DnsRoute) (rs : List DnsRoute) → AllByRecursion (λ s. suffix_cmp r s ≡ Less) rs → AllBehind r.suffix (route_members rs)
all_behind r [] h = tt
all_behind r (s ∷ rs) h = (h.0, all_behind r rs h.1)

routes_rise : (rs : List DnsRoute) → IsStrictlySortedBy suffix_cmp rs → Rising (route_members rs)
unfolding IsStrictlySortedBy
routes_rise [] h = tt
routes_rise (r ∷ rs) h = (all_behind r rs h.0, routes_rise rs h.1)

routes_have : (rs : List DnsRoute) → AllByRecursion IsTypedRoute rs → HaveReads (route_members rs)
routes_have [] h = tt
routes_have (r ∷ rs) h = (arrays_read resolver_data IsTypedAddr resolvers_read r.resolvers h.0, routes_have rs h.1)

routes_read : (rs : List DnsRoute) → IsStrictlySortedBy suffix_cmp rs → AllByRecursion IsTypedRoute rs → Reads (routes_data rs)
routes_read rs rise h = subst Reads (sym (in_turn rs rise)) (objects_read (route_members rs) (routes_rise rs rise) (routes_have rs h))

pub dns_read : (x : Dns) → IsWrittenDns x → Reads (dns_data x)
unfolding dns_data
dns_read x h =
    optional_read (
    (codes "Domains", Some (array_data string x.settings.domains)) ∷ (codes "ExtraRecords", Some (array_data extra_data x.extras)) ∷ (codes "Proxied", Some (boolean x.settings.proxied))
    ∷ (codes "Resolvers", Some (array_data resolver_data x.settings.resolvers)) ∷ (codes "Routes", Some (routes_data x.settings.routes)) ∷ []
    ) refl (
      arrays_read string (λ s. ⊤) (λ s k. refl) x.settings.domains (everywhere x.settings.domains),
      (
        arrays_read extra_data IsTypedRecord records_read x.extras h.0.extras,
        (
          refl,
          (
            arrays_read resolver_data IsTypedAddr resolvers_read x.settings.resolvers h.0.resolvers,
            (routes_read x.settings.routes h.1 h.0.routes, tt),
          ),
        ),
      ),
    )
