-- The forms of DNS settings tell them.
use Rattle.std.proofs.Common.{◌≡◌, ℕ, suc, List, [], ◌∷◌, refl, sym, ap, ap₂, subst, ◌∙◌}
use Rattle.std.specs.List.{AllByRecursion}
use Rattle.std.specs.List.Sorted.{IsStrictlySortedBy}
use Rattle.serde_json.specs.Data.{Data, Members, member, object}
use Rattle.net_addr.proofs.TextLemmas.{addr_text-injective}
use Rattle.tailcfg.specs.declared.dns.DnsRoute.{DnsRoute}
use Rattle.tailcfg.specs.declared.dns.DnsSettings.{DnsSettings}
use Rattle.wire_write.specs.Dns.{dns_data, extra_data, resolver_data, routes_data}
use Rattle.wire_write.specs.Routes.{route_members}
use Rattle.wire_write.proofs.RouteLemmas.{members_from}
use Rattle.settings.specs.Settings.{suffix_cmp}
use Rattle.response_values.specs.Dns.{IsTypedRecord, IsTypedRoute}
use Rattle.response_values.specs.Values.{IsTypedAddr}
use Rattle.wire_laws.specs.Dns.{IsWrittenDns}
use Rattle.wire_laws.specs.Trees.{HaveTrees, IsTree}
use Rattle.wire_laws.proofs.FormLemmas.{Grows, Tells, arrays_grow, arrays_tell, booleans_tell, members_tell, objects_tell, strings_tell, texts_grow, texts_tell}
use Rattle.wire_laws.proofs.RouteLemmas.{rising_routes}

extras_tell : Tells extra_data IsTypedRecord
unfolding extra_data
extras_tell a b p q e =
    let name = members_tell _ _ _ _ _ (objects_tell _ _ e) in
    let kind = members_tell _ _ _ _ _ name.1 in
    let value = members_tell _ _ _ _ _ kind.1 in
    λ i. record {
      name = strings_tell a.name b.name name.0 i;
      addr = addr_text-injective a.addr b.addr p q (strings_tell _ _ value.0) i;
    }

resolvers_tell : Tells resolver_data IsTypedAddr
unfolding resolver_data
resolvers_tell a b p q e = addr_text-injective a b p q (strings_tell _ _ (members_tell _ _ _ _ _ (objects_tell _ _ e)).0)

-- ---- routes

names_same : (k l : List ℕ) (d e : Data) (ms ns : Members) → member k d ms ≡ member l e ns → k ≡ l
names_same k l d e ms ns h = cc (h)

values_same : (k l : List ℕ) (d e : Data) (ms ns : Members) → member k d ms ≡ member l e ns → d ≡ e
values_same k l d e ms ns h = cc (h)

others_same : (k l : List ℕ) (d e : Data) (ms ns : Members) → member k d ms ≡ member l e ns → ms ≡ ns
others_same k l d e ms ns h = cc (h)

listed_tell : (rs qs : List DnsRoute) → AllByRecursion IsTypedRoute rs → AllByRecursion IsTypedRoute qs → route_members rs ≡ route_members qs → rs ≡ qs
listed_tell [] [] p q e = refl
listed_tell [] (s ∷ qs) p q e = absurd (cc (e))
listed_tell (r ∷ rs) [] p q e = absurd (cc (e))
listed_tell (r ∷ rs) (s ∷ qs) p q e =
    let suffix = names_same _ _ _ _ _ _ e in
    let resolvers = arrays_tell resolver_data IsTypedAddr resolvers_tell r.resolvers s.resolvers p.0 q.0 (values_same _ _ _ _ _ _ e) in
    let one : r ≡ s = λ i. record { suffix = suffix i; resolvers = resolvers i } in
    ap₂ (λ t ts. t ∷ ts) one (listed_tell rs qs p.1 q.1 (others_same _ _ _ _ _ _ e))

-- routes whose suffixes rise are written one by one
pub in_turn : (rs : List DnsRoute) → IsStrictlySortedBy suffix_cmp rs → routes_data rs ≡ object (route_members rs)
unfolding routes_data
in_turn rs rise = ap object (sym (members_from rs []) ∙ ap route_members (rising_routes rs rise))

routes_tell : (a b : DnsSettings) → IsStrictlySortedBy suffix_cmp a.routes → IsStrictlySortedBy suffix_cmp b.routes → AllByRecursion IsTypedRoute a.routes → AllByRecursion IsTypedRoute b.routes
    → routes_data a.routes ≡ routes_data b.routes → a.routes ≡ b.routes
routes_tell a b left right p q e =
    listed_tell a.routes b.routes p q (objects_tell _ _ (sym (in_turn a.routes left) ∙ e ∙ in_turn b.routes right))

-- ---- all settings

pub dns_tell : Tells dns_data IsWrittenDns
unfolding dns_data
dns_tell a b p q e =
    let domains = members_tell _ _ _ _ _ (objects_tell _ _ e) in
    let extras = members_tell _ _ _ _ _ domains.1 in
    let proxied = members_tell _ _ _ _ _ extras.1 in
    let resolvers = members_tell _ _ _ _ _ proxied.1 in
    let routes = members_tell _ _ _ _ _ resolvers.1 in
    let settings : a.settings ≡ b.settings = λ i. record {
      domains = texts_tell a.settings.domains b.settings.domains domains.0 i;
      proxied = booleans_tell a.settings.proxied b.settings.proxied proxied.0 i;
      resolvers = arrays_tell resolver_data IsTypedAddr resolvers_tell a.settings.resolvers b.settings.resolvers p.0.resolvers q.0.resolvers resolvers.0 i;
      routes = routes_tell a.settings b.settings p.1 q.1 p.0.routes q.0.routes routes.0 i;
    } in
    λ i. record { settings = settings i; extras = arrays_tell extra_data IsTypedRecord extras_tell a.extras b.extras p.0.extras q.0.extras extras.0 i }

-- ---- trees

listed_grow : (n : ℕ) (rs : List DnsRoute) → AllByRecursion IsTypedRoute rs → HaveTrees (suc (suc n)) (route_members rs)
unfolding resolver_data
listed_grow n [] p = tt
listed_grow n (r ∷ rs) p = (arrays_grow resolver_data IsTypedAddr (suc n) (λ a k. (tt, tt)) r.resolvers p.0, listed_grow n rs p.1)

routes_grow : (n : ℕ) (rs : List DnsRoute) → IsStrictlySortedBy suffix_cmp rs → AllByRecursion IsTypedRoute rs → IsTree (suc (suc (suc n))) (routes_data rs)
routes_grow n rs rise p = subst (IsTree (suc (suc (suc n)))) (sym (in_turn rs rise)) (listed_grow n rs p)

pub dns_grow : (n : ℕ) → Grows dns_data IsWrittenDns (suc (suc (suc (suc n))))
unfolding dns_data extra_data resolver_data
dns_grow n d h = (
  texts_grow (suc (suc n)) d.settings.domains,
  (
    arrays_grow extra_data IsTypedRecord (suc (suc n)) (λ e k. (tt, (tt, (tt, tt)))) d.extras h.0.extras,
    (
      tt,
      (
        arrays_grow resolver_data IsTypedAddr (suc (suc n)) (λ a k. (tt, tt)) d.settings.resolvers h.0.resolvers,
        (routes_grow n d.settings.routes h.1 h.0.routes, tt),
      ),
    ),
  ),
)
