-- The values of settings: each is read by its type first, and then by its rule.
use Rattle.std.specs.Prelude.{ℕ, ℤ, pos, negsuc, Bool, true, false, List, [], ◌∷◌, length, if◌then◌else◌, nat_le, ◌&&◌, Option, Some, None, Result, Err, option_and_then, option_map}
use Rattle.std.specs.List.{list_all}
use Rattle.std.specs.Result.{result_ok}
use Rattle.tail_base.specs.Steps.{or_fault}
use Rattle.net_addr.specs.AddrTexts.{addr_of_text}
use Rattle.net_addr.specs.Bits.{Address, Block}
use Rattle.net_addr.specs.PrefixTexts.{prefix_of_text}
use Rattle.net_addr.specs.Blocks.{is_within}
use Rattle.net_addr.specs.Tailnet.{tailnet_v4, tailnet_v6}
use Rattle.server_settings.specs.ServerRules.{is_visible}
use Rattle.settings.specs.Settings.{is_base_domain, is_domain}
use Rattle.settings.specs.declared.limits.TheConstants.{DNS_ROUTE_LIMIT, PREFIX_V4_LEN_LIMIT, PREFIX_V6_LEN_LIMIT, RESOLVER_LIMIT, SEARCH_LIMIT}
use Rattle.tailcfg.specs.declared.dns.DnsRoute.{DnsRoute}
use Rattle.toml.specs.Data.{Data, Items, no_items, item, Members, no_members, member, as_array, as_integer, as_str, as_table}
use Rattle.tail_words.specs.declared.lists.RouteTexts.{RouteTexts}
use Rattle.tail_words.specs.declared.fault.SettingsRule.{SettingsRule}
use Rattle.tail_words.specs.declared.fault.SettingsRule.TheVariants.{KeyType, KeyRule}
use Rattle.tail_words.specs.declared.rule.TextRule.{TextRule}
use Rattle.tail_words.specs.declared.rule.TextRule.TheVariants.{Any, BaseDomain, Visible}

-- what a rule makes of a value of its type; or the rule of types is broken, or this one
abbrev pub reading : {A B : Type 0} → (A → Option B) → Option A → Result B SettingsRule
reading rule None = Err KeyType
reading rule (Some a) = or_fault KeyRule (rule a)

-- the value itself, if it passes a test
abbrev pub passing : {A : Type 0} → (A → Bool) → A → Option A
passing test a = if test a then Some a else None

-- a number from the least to the greatest
abbrev pub number_within : ℕ → ℕ → ℤ → Option ℕ
number_within least greatest (pos n) = passing (λ k. nat_le least k && nat_le k greatest) n
number_within least greatest (negsuc n) = None

-- an integer from the least to the greatest
abbrev pub number : ℕ → ℕ → Data → Result ℕ SettingsRule
number least greatest d = reading (number_within least greatest) (as_integer d)

-- the test of a text
abbrev pub passes : TextRule → List ℕ → Bool
passes Any t = true
passes BaseDomain t = is_base_domain t
passes Visible t = is_visible t

-- a string that passes its test
abbrev pub text : TextRule → Data → Result (List ℕ) SettingsRule
text rule d = reading (passing (passes rule)) (as_str d)

-- a prefix of the tailnet's addresses with room for some
abbrev pub prefix_fits : Bool → Block → Bool
prefix_fits false p = is_within p tailnet_v4 && nat_le p.len PREFIX_V4_LEN_LIMIT
prefix_fits true p = is_within p tailnet_v6 && nat_le p.len PREFIX_V6_LEN_LIMIT

-- such a prefix that a text spells
abbrev pub prefix_within : Bool → List ℕ → Option Block
prefix_within v6 t = option_and_then (passing (prefix_fits v6)) (result_ok (prefix_of_text t))

-- a string that spells such a prefix
abbrev pub prefix : Bool → Data → Result Block SettingsRule
prefix v6 d = reading (prefix_within v6) (as_str d)

-- the first, if it is there, and the others, if they all are
abbrev pub before : {A : Type 0} → Option A → Option (List A) → Option (List A)
before None others = None
before (Some a) others = option_map (λ more. a ∷ more) others

-- the texts of elements, if they all are strings
abbrev pub item_texts : Items → Option (List (List ℕ))
item_texts no_items = Some []
item_texts (item d more) = before (as_str d) (item_texts more)

-- an array of strings
abbrev pub texts : Data → Option (List (List ℕ))
texts d = option_and_then item_texts (as_array d)

-- the addresses that texts spell, if they all do
abbrev pub each_address : List (List ℕ) → Option (List Address)
each_address [] = Some []
each_address (t ∷ more) = before (addr_of_text t) (each_address more)

-- addresses, up to their limit
abbrev pub addresses : List (List ℕ) → Option (List Address)
addresses ts = option_and_then (passing (λ made. nat_le (length made) RESOLVER_LIMIT)) (each_address ts)

-- an array of strings that spell addresses, up to their limit
abbrev pub resolvers : Data → Result (List Address) SettingsRule
resolvers d = reading addresses (texts d)

-- domains, up to their limit
abbrev pub are_domains : List (List ℕ) → Bool
are_domains ts = nat_le (length ts) SEARCH_LIMIT && list_all is_domain ts

-- an array of domains, up to their limit
abbrev pub search_domains : Data → Result (List (List ℕ)) SettingsRule
search_domains d = reading (passing are_domains) (texts d)

-- the texts at a suffix, if they are an array of strings
abbrev pub route_texts : List ℕ → Data → Option RouteTexts
route_texts suffix d = option_map (λ ts. record { suffix = suffix; resolvers = ts }) (texts d)

-- the texts at each key, if each has an array of strings
abbrev pub member_texts : Members → Option (List RouteTexts)
member_texts no_members = Some []
member_texts (member suffix d more) = before (route_texts suffix d) (member_texts more)

-- a table of arrays of strings
abbrev pub table_texts : Data → Option (List RouteTexts)
table_texts d = option_and_then member_texts (as_table d)

-- a domain with its addresses, up to their limit
abbrev pub route : RouteTexts → Option DnsRoute
route r = if is_domain r.suffix then option_map (λ made. record { suffix = r.suffix; resolvers = made }) (addresses r.resolvers) else None

-- the routes that texts spell, if they all do
abbrev pub each_route : List RouteTexts → Option (List DnsRoute)
each_route [] = Some []
each_route (r ∷ more) = before (route r) (each_route more)

-- domains with their addresses, up to the limit of routes
abbrev pub routes_within : List RouteTexts → Option (List DnsRoute)
routes_within rs = option_and_then (passing (λ made. nat_le (length made) DNS_ROUTE_LIMIT)) (each_route rs)

-- a table of domains, each with an array of strings that spell addresses, up to their limits
abbrev pub routes : Data → Result (List DnsRoute) SettingsRule
routes d = reading routes_within (table_texts d)
