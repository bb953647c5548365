-- The rules of a tailnet's settings.
use Rattle.std.specs.Prelude.{◌≡◌, ◌≤◌, ℕ, Bool, true, List, [], ◌∷◌, ◌++◌, length, if◌then◌else◌, nat_le, ◌&&◌, ◌==◌}
use Rattle.std.specs.Cmp.Lexicographic.{slice_cmp}
use Rattle.std.specs.List.{list_all}
use Rattle.std.specs.List.Sorted.{IsStrictlySortedBy}
use Rattle.std.specs.Ordering.{nat_cmp}
use Rattle.std.specs.declared.cmp.Ordering.{Ordering}
use Rattle.tail_base.specs.Labels.{is_label}
use Rattle.net_addr.specs.Blocks.{is_within}
use Rattle.net_addr.specs.Tailnet.{tailnet_v4, tailnet_v6}
use Rattle.tailcfg.specs.declared.dns.DnsRoute.{DnsRoute}
use Rattle.tailcfg.specs.declared.dns.DnsSettings.{DnsSettings}
use Rattle.settings.specs.declared.fields.SettingsFields.{SettingsFields}
use Rattle.settings.specs.declared.limits.TheConstants.{BASE_DOMAIN_LIMIT, DNS_ROUTE_LIMIT, DOMAIN_LIMIT, PREFIX_V4_LEN_LIMIT, PREFIX_V6_LEN_LIMIT, RESOLVER_LIMIT, SEARCH_LIMIT, SECONDS_LIMIT, WORKER_LIMIT}

-- the rest of labels joined by dots, after the bytes of the label that has begun
abbrev pub are_labels : List ℕ → List ℕ → Bool
are_labels label [] = is_label label
are_labels label (b ∷ bs) = if b == 46 then is_label label && are_labels [] bs else are_labels (label ++ b ∷ []) bs

-- labels joined by dots, no longer than a name in the DNS may be
abbrev pub is_domain : List ℕ → Bool
is_domain text = nat_le (length text) DOMAIN_LIMIT && are_labels [] text

-- a domain with room for a machine's label before it
abbrev pub is_base_domain : List ℕ → Bool
is_base_domain text = nat_le (length text) BASE_DOMAIN_LIMIT && is_domain text

-- a domain with resolvers, up to their limit
abbrev pub is_domain_route : DnsRoute → Bool
is_domain_route route = is_domain route.suffix && nat_le (length route.resolvers) RESOLVER_LIMIT

-- how routes go by their suffixes in byte order
abbrev pub suffix_cmp : DnsRoute → DnsRoute → Ordering
suffix_cmp a b = slice_cmp nat_cmp a.suffix b.suffix

-- a number from the least to the greatest
abbrev pub IsFrom : ℕ → ℕ → ℕ → Type 0
IsFrom least greatest n = (least ≤ n) × (n ≤ greatest)

-- The DNS settings keep their rules: each suffix has one route, and they stand in byte order, as the keys of a settings
-- file's table do.
pub record AreDnsSettings (dns : DnsSettings) : Type 0 where
  pub domains : length dns.domains ≤ SEARCH_LIMIT
  pub each_domain : list_all is_domain dns.domains ≡ true
  pub resolvers : length dns.resolvers ≤ RESOLVER_LIMIT
  pub routes : length dns.routes ≤ DNS_ROUTE_LIMIT
  pub each_route : list_all is_domain_route dns.routes ≡ true
  pub suffixes : IsStrictlySortedBy suffix_cmp dns.routes

-- Each field keeps its rule.
pub record AreSettings (s : SettingsFields) : Type 0 where
  pub base_domain : is_base_domain s.base_domain ≡ true
  pub dns : AreDnsSettings s.dns
  pub ephemeral_seconds : IsFrom 1 SECONDS_LIMIT s.ephemeral_seconds
  pub key_seconds : s.key_seconds ≤ SECONDS_LIMIT
  pub pending_seconds : IsFrom 1 SECONDS_LIMIT s.pending_seconds
  pub prefix_v4 : is_within s.prefix_v4 tailnet_v4 ≡ true
  pub prefix_v4_len : s.prefix_v4.len ≤ PREFIX_V4_LEN_LIMIT
  pub prefix_v6 : is_within s.prefix_v6 tailnet_v6 ≡ true
  pub prefix_v6_len : s.prefix_v6.len ≤ PREFIX_V6_LEN_LIMIT
  pub workers : IsFrom 1 WORKER_LIMIT s.workers
