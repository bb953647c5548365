-- DNS is the same exactly where it is equal.
use Rattle.std.proofs.Common.{◌≡◌, ℕ, Bool, true, List, refl, ap, ◌∙◌, sym}
use Rattle.std.proofs.lemmas.Bool.{and_parts, and_from}
use Rattle.std.specs.Bool.{beq}
use Rattle.std.specs.Cmp.Lexicographic.{pointwise}
use Rattle.std.specs.Prelude.{◌↔◌}
use Rattle.std.specs.Str.{bytes_eq}
use Rattle.net_addr.specs.Bits.{Address}
use Rattle.net_rows.specs.Damage.{address_eq}
use Rattle.net_rows.proofs.Stands.{address_of}
use Rattle.tail_base.proofs.Bools.{all4, and4, beq-true, beq-from, bytes_eq-true, bytes_eq-from}
use Rattle.tailcfg.specs.declared.dns.Dns.{Dns}
use Rattle.tailcfg.specs.declared.dns.DnsExtra.{DnsExtra}
use Rattle.tailcfg.specs.declared.dns.DnsRoute.{DnsRoute}
use Rattle.tailcfg.specs.declared.dns.DnsSettings.{DnsSettings}
use Rattle.same_maps.specs.Dns.{same_dns, same_dns_route, same_dns_settings, same_extra, same_extras}
use Rattle.same_maps.proofs.PartLemmas.{address_itself, list_itself, lists_equal}

text_itself : (x : List ℕ) → bytes_eq x x ≡ true
text_itself x = bytes_eq-from x x refl

dns_routes_equal : (a b : DnsRoute) → same_dns_route a b ≡ true → a ≡ b
dns_routes_equal a b h =
    let both = and_parts (bytes_eq a.suffix b.suffix) (pointwise address_eq a.resolvers b.resolvers) h in
    λ i. record { suffix = bytes_eq-true a.suffix b.suffix both.0 i; resolvers = lists_equal address_eq address_of a.resolvers b.resolvers both.1 i }

dns_route_itself : (a : DnsRoute) → same_dns_route a a ≡ true
dns_route_itself a =
    and_from (bytes_eq a.suffix a.suffix) (pointwise address_eq a.resolvers a.resolvers) (text_itself a.suffix) (list_itself address_eq address_itself a.resolvers)

dns_settings_equal : (a b : DnsSettings) → same_dns_settings a b ≡ true → a ≡ b
dns_settings_equal a b h =
    let all = all4 (pointwise bytes_eq a.domains b.domains) (beq a.proxied b.proxied) (pointwise address_eq a.resolvers b.resolvers) (pointwise same_dns_route a.routes b.routes) h in
    λ i. record {
      domains = lists_equal bytes_eq bytes_eq-true a.domains b.domains all.0 i;
      proxied = beq-true a.proxied b.proxied all.1 i;
      resolvers = lists_equal address_eq address_of a.resolvers b.resolvers all.2 i;
      routes = lists_equal same_dns_route dns_routes_equal a.routes b.routes all.3 i;
    }

dns_settings_itself : (a : DnsSettings) → same_dns_settings a a ≡ true
dns_settings_itself a =
    and4 (pointwise bytes_eq a.domains a.domains) (beq a.proxied a.proxied) (pointwise address_eq a.resolvers a.resolvers) (pointwise same_dns_route a.routes a.routes)
    (list_itself bytes_eq text_itself a.domains) (beq-from a.proxied a.proxied refl) (list_itself address_eq address_itself a.resolvers) (list_itself same_dns_route dns_route_itself a.routes)

extra_equal : (a b : DnsExtra) → same_extra a b ≡ true → a ≡ b
extra_equal a b h =
    let both = and_parts (bytes_eq a.name b.name) (address_eq a.addr b.addr) h in
    λ i. record { name = bytes_eq-true a.name b.name both.0 i; addr = address_of a.addr b.addr both.1 i }

extra_itself : (a : DnsExtra) → same_extra a a ≡ true
extra_itself a = and_from (bytes_eq a.name a.name) (address_eq a.addr a.addr) (text_itself a.name) (address_itself a.addr)

pub extras_equal : (a b : List DnsExtra) → same_extras a b ≡ true → a ≡ b
extras_equal a b h = lists_equal same_extra extra_equal a b h

pub extras_itself : (a : List DnsExtra) → same_extras a a ≡ true
extras_itself a = list_itself same_extra extra_itself a

pub same_extras_is : (a b : List DnsExtra) → same_extras a b ≡ true ↔ (a ≡ b)
same_extras_is a b = (extras_equal a b, λ e. ap (λ (x : List DnsExtra). same_extras a x) (sym e) ∙ extras_itself a)

pub dns_equal : (a b : Dns) → same_dns a b ≡ true → a ≡ b
dns_equal a b h =
    let both = and_parts (same_dns_settings a.settings b.settings) (same_extras a.extras b.extras) h in
    λ i. record { settings = dns_settings_equal a.settings b.settings both.0 i; extras = extras_equal a.extras b.extras both.1 i }

pub dns_itself : (a : Dns) → same_dns a a ≡ true
dns_itself a =
    and_from (same_dns_settings a.settings a.settings) (same_extras a.extras a.extras) (dns_settings_itself a.settings) (extras_itself a.extras)

pub same_dns_is : (a b : Dns) → same_dns a b ≡ true ↔ (a ≡ b)
same_dns_is a b = (dns_equal a b, λ e. ap (λ (x : Dns). same_dns a x) (sym e) ∙ dns_itself a)
