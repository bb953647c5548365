-- The fields that are read of a table keep their rules.
use Rattle.std.proofs.Common.{◌≡◌, ℕ, ℤ, pos, negsuc, Bool, true, false, ◌&&◌, ◌≤◌, nat_le, List, [], ◌∷◌, length, Option, Some, None, option_map, cond, refl, sym, ap, ◌∙◌, arith}
use Rattle.std.specs.Prelude.{Ok, codes, option_and_then, unwrap_or}
use Rattle.std.specs.List.{list_all}
use Rattle.std.specs.List.Sorted.{IsStrictlySortedBy}
use Rattle.std.specs.Result.{result_ok}
use Rattle.std.proofs.lemmas.Bool.{and_parts}
use Rattle.std.proofs.lemmas.Bool.Decides.{nat_tests}
use Rattle.toml.specs.Data.{Members, as_integer, as_str, get_member}
use Rattle.tail_base.specs.Steps.{or_fault}
use Rattle.net_addr.specs.Bits.{Address, Block}
use Rattle.net_addr.specs.PrefixTexts.{prefix_of_text}
use Rattle.net_addr.specs.Tailnet.{tailnet_v4, tailnet_v6}
use Rattle.server_settings.specs.ServerRules.{AreServerSettings, is_visible}
use Rattle.server_settings.specs.declared.defaults.TheConstants.{CONNECTIONS_DEFAULT, POLL_TURNS_DEFAULT, REQUESTS_DEFAULT}
use Rattle.server_settings.specs.declared.limits.TheConstants.{COUNT_LIMIT}
use Rattle.settings.specs.Settings.{AreDnsSettings, AreSettings, IsFrom, is_base_domain, is_domain, is_domain_route, suffix_cmp}
use Rattle.settings.specs.declared.defaults.TheConstants.{EPHEMERAL_SECONDS_DEFAULT, KEY_SECONDS_DEFAULT, PENDING_SECONDS_DEFAULT, WORKERS_DEFAULT}
use Rattle.settings.specs.declared.limits.TheConstants.{DNS_ROUTE_LIMIT, PREFIX_V4_LEN_LIMIT, PREFIX_V6_LEN_LIMIT, RESOLVER_LIMIT, SEARCH_LIMIT, SECONDS_LIMIT, WORKER_LIMIT}
use Rattle.tailcfg.specs.declared.dns.DnsRoute.{DnsRoute}
use Rattle.tail_words.specs.SettingsText.{dns_at, dns_settings_of, number_at, number_by, prefix_at, prefix_by, required, rule_of, server_fields_of, tailnet_fields_of, text_at, text_by}
use Rattle.tail_words.specs.SettingsValues.{addresses, are_domains, before, each_address, each_route, number, number_within, passes, passing, prefix, prefix_fits, prefix_within, reading, resolvers, route, routes, routes_within, search_domains, table_texts, text, texts}
use Rattle.tail_words.specs.declared.fault.SettingsFault.{SettingsFault}
use Rattle.tail_words.specs.declared.fault.SettingsRule.{SettingsRule}
use Rattle.tail_words.specs.declared.fault.SettingsRule.TheVariants.{KeyRule}
use Rattle.tail_words.specs.declared.lists.RouteTexts.{RouteTexts}
use Rattle.tail_words.specs.declared.rule.Rule.TheVariants.{Number, Prefix, Text}
use Rattle.tail_words.specs.declared.rule.TextRule.{TextRule}
use Rattle.tail_words.specs.declared.rule.TextRule.TheVariants.{BaseDomain, Visible}

-- a value that was read is what the rule gave
ruled : {B : Type 0} (o : Option B) (b : B) → result_ok {E = SettingsRule} (or_fault KeyRule o) ≡ Some b → o ≡ Some b
ruled None b h = absurd (cc)
ruled (Some x) b h = h

read_by : {A B : Type 0} (rule : A → Option B) (o : Option A) (b : B) → result_ok (reading rule o) ≡ Some b → (a : A) × (rule a ≡ Some b)
read_by rule None b h = absurd (cc)
read_by rule (Some a) b h = (a, ruled (rule a) b h)

found_by : {A B : Type 0} (f : A → Option B) (o : Option A) (b : B) → option_and_then f o ≡ Some b → (a : A) × (f a ≡ Some b) × (o ≡ Some a)
found_by f None b h = absurd (cc)
found_by f (Some a) b h = (a, h, refl)

pub if_parts : {A : Type 0} (b : Bool) (o : Option A) (a : A) → cond {A = Option A} b o None ≡ Some a → (b ≡ true) × (o ≡ Some a)
if_parts true o a h = (refl, h)
if_parts false o a h = absurd (cc)

pub map_parts : {A B : Type 0} (f : A → B) (o : Option A) (b : B) → option_map f o ≡ Some b → (a : A) × (o ≡ Some a) × (f a ≡ b)
map_parts f None b h = absurd (cc)
map_parts f (Some a) b h = (a, refl, cc)

-- what passed a test is the value
same_value : {A : Type 0} (test : A → Bool) (a b : A) → passing test a ≡ Some b → a ≡ b
same_value test a b h = let parts = if_parts (test a) (Some a) b h in let e : Some a ≡ Some b = parts.1 in cc

-- what passed a test passes it
passed : {A : Type 0} (test : A → Bool) (a b : A) → passing test a ≡ Some b → test b ≡ true
passed test a b h = ap test (sym (same_value test a b h)) ∙ (if_parts (test a) (Some a) b h).0

both : (p q : Bool) → p ≡ true → q ≡ true → (p && q) ≡ true
both p q hp hq = rw (hp, hq) refl

or_default : {A : Type 0} (P : A → Type 0) (o : Option A) (default : A) → P default → ((a : A) → o ≡ Some a → P a) → P (unwrap_or o default)
or_default P None default fits each = fits
or_default P (Some a) default fits each = each a refl

from_tests : (least greatest n : ℕ) → (nat_le least n && nat_le n greatest) ≡ true → IsFrom least greatest n
from_tests least greatest n h = (grind (arith, nat_tests), grind (arith, nat_tests))

within_range : (least greatest : ℕ) (z : ℤ) (n : ℕ) → number_within least greatest z ≡ Some n → IsFrom least greatest n
within_range least greatest (pos k) n h = from_tests least greatest n (passed (λ j. nat_le least j && nat_le j greatest) k n h)
within_range least greatest (negsuc k) n h = absurd (cc)

pub number_in : (key : List ℕ) (least greatest default : ℕ) (table : Members) → rule_of key ≡ Some (Number least greatest) → IsFrom least greatest default
    → IsFrom least greatest (unwrap_or (number_at key table) default)
number_in key least greatest default table rule fits =
    or_default (IsFrom least greatest) (number_at key table) default fits (λ n at.
    let found = found_by (number_by (rule_of key)) (get_member key table) n at in
    let here : result_ok (number least greatest found.0) ≡ Some n = ap (λ r. number_by r found.0) (sym rule) ∙ found.1 in
    let ranged = read_by (number_within least greatest) (as_integer found.0) n here in
    within_range least greatest ranged.0 n ranged.1)

pub prefix_in : (key : List ℕ) (v6 : Bool) (default : Block) (table : Members) → rule_of key ≡ Some (Prefix v6) → prefix_fits v6 default ≡ true
    → prefix_fits v6 (unwrap_or (prefix_at key table) default) ≡ true
prefix_in key v6 default table rule fits =
    or_default (λ p. prefix_fits v6 p ≡ true) (prefix_at key table) default fits (λ p at.
    let found = found_by (prefix_by (rule_of key)) (get_member key table) p at in
    let here : result_ok (prefix v6 found.0) ≡ Some p = ap (λ r. prefix_by r found.0) (sym rule) ∙ found.1 in
    let spelt = read_by (prefix_within v6) (as_str found.0) p here in
    let read = found_by (passing (prefix_fits v6)) (result_ok (prefix_of_text spelt.0)) p spelt.1 in
    passed (prefix_fits v6) read.0 p read.1)

found_text : (fault : SettingsFault) (o : Option (List ℕ)) (t : List ℕ) → or_fault fault o ≡ Ok t → o ≡ Some t
found_text fault None t h = absurd (cc)
found_text fault (Some x) t h = let same : x ≡ t = cc in ap Some same

pub text_in : (key : List ℕ) (rule : TextRule) (table : Members) (t : List ℕ) → rule_of key ≡ Some (Text rule) → required key table ≡ Ok t → passes rule t ≡ true
text_in key rule table t has there =
    let found = found_by (text_by (rule_of key)) (get_member key table) t (found_text _ (text_at key table) t there) in
    let here : result_ok (text rule found.0) ≡ Some t = ap (λ r. text_by r found.0) (sym has) ∙ found.1 in
    let spelt = read_by (passing (passes rule)) (as_str found.0) t here in
    passed (passes rule) spelt.0 t spelt.1

short_addresses : (ts : List (List ℕ)) (made : List Address) → addresses ts ≡ Some made → nat_le (length made) RESOLVER_LIMIT ≡ true
short_addresses ts made h =
    let found = found_by (passing (λ l. nat_le (length l) RESOLVER_LIMIT)) (each_address ts) made h in
    passed (λ l. nat_le (length l) RESOLVER_LIMIT) found.0 made found.1

abbrev pub made_route : RouteTexts → List Address → DnsRoute
made_route r l = record { suffix = r.suffix; resolvers = l }

route_fits : (r : RouteTexts) (made : DnsRoute) → route r ≡ Some made → is_domain_route made ≡ true
route_fits r made h =
    let parts = if_parts (is_domain r.suffix) (option_map (made_route r) (addresses r.resolvers)) made h in
    let mapped = map_parts (made_route r) (addresses r.resolvers) made parts.1 in
    ap is_domain_route (sym mapped.2) ∙ both (is_domain r.suffix) (nat_le (length mapped.0) RESOLVER_LIMIT) parts.0 (short_addresses r.resolvers mapped.0 mapped.1)

pub before_parts : {A : Type 0} (o : Option A) (others : Option (List A)) (made : List A) → before o others ≡ Some made
    → (a : A) × (more : List A) × (o ≡ Some a) × (others ≡ Some more) × (a ∷ more ≡ made)
before_parts None others made h = absurd (cc)
before_parts (Some a) None made h = absurd (cc)
before_parts (Some a) (Some more) made h = (a, more, refl, refl, cc)

routes_fit : (rs : List RouteTexts) (made : List DnsRoute) → each_route rs ≡ Some made → list_all is_domain_route made ≡ true
routes_fit [] made h = let same : [] ≡ made = cc in ap (list_all is_domain_route) (sym same)
routes_fit (r ∷ rs) made h =
    let parts = before_parts (route r) (each_route rs) made h in
    ap (list_all is_domain_route) (sym parts.4) ∙ both _ _ (route_fits r parts.0 parts.2) (routes_fit rs parts.1 parts.3)

small : (n most : ℕ) → nat_le n most ≡ true → n ≤ most
small n most h = grind (arith, nat_tests)

resolvers_in : (base : List ℕ) (table : Members) → length (dns_settings_of base table).resolvers ≤ RESOLVER_LIMIT
resolvers_in base table =
    or_default (λ l. length l ≤ RESOLVER_LIMIT) (option_and_then (λ d. result_ok (resolvers d)) (dns_at (codes "resolvers") table)) [] (omega arith) (λ made at.
    let found = found_by (λ d. result_ok (resolvers d)) (dns_at (codes "resolvers") table) made at in
    let read = read_by addresses (texts found.0) made found.1 in
    small (length made) RESOLVER_LIMIT (short_addresses read.0 made read.1))

abbrev FitRoutes : List DnsRoute → Type 0
FitRoutes l = (length l ≤ DNS_ROUTE_LIMIT) × (list_all is_domain_route l ≡ true)

routes_in : (base : List ℕ) (table : Members) → FitRoutes (dns_settings_of base table).routes
routes_in base table =
    or_default FitRoutes (option_and_then (λ d. result_ok (routes d)) (dns_at (codes "routes") table)) [] (omega arith, refl) (λ made at.
    let found = found_by (λ d. result_ok (routes d)) (dns_at (codes "routes") table) made at in
    let read = read_by routes_within (table_texts found.0) made found.1 in
    let few = found_by (passing (λ l. nat_le (length l) DNS_ROUTE_LIMIT)) (each_route read.0) made read.1 in
    (small (length made) DNS_ROUTE_LIMIT (passed (λ l. nat_le (length l) DNS_ROUTE_LIMIT) few.0 made few.1), routes_fit read.0 made (few.2 ∙ ap Some (same_value (λ l. nat_le (length l) DNS_ROUTE_LIMIT) few.0 made few.1))))

abbrev FitSearch : List (List ℕ) → Type 0
FitSearch l = are_domains l ≡ true

search_in : (base : List ℕ) (table : Members) → is_domain base ≡ true → FitSearch (dns_settings_of base table).domains
search_in base table good =
    or_default FitSearch (option_and_then (λ d. result_ok (search_domains d)) (dns_at (codes "search") table)) (base ∷ []) (rw good refl) (λ made at.
    let found = found_by (λ d. result_ok (search_domains d)) (dns_at (codes "search") table) made at in
    let read = read_by (passing are_domains) (texts found.0) made found.1 in
    passed are_domains read.0 made read.1)

dns_fits : (base : List ℕ) (table : Members) → is_domain base ≡ true → IsStrictlySortedBy suffix_cmp (dns_settings_of base table).routes
    → AreDnsSettings (dns_settings_of base table)
dns_fits base table good suffixes =
    let found = and_parts _ _ (search_in base table good) in
    record {
      domains = small _ SEARCH_LIMIT found.0;
      each_domain = found.1;
      resolvers = resolvers_in base table;
      routes = (routes_in base table).0;
      each_route = (routes_in base table).1;
      suffixes = suffixes;
    }

pub tailnet_fits : (base : List ℕ) (table : Members) → is_base_domain base ≡ true
    → IsStrictlySortedBy suffix_cmp (tailnet_fields_of base table).dns.routes → AreSettings (tailnet_fields_of base table)
unfolding rule_of
tailnet_fits base table good_base suffixes =
    let v4 = and_parts _ _ (prefix_in (codes "prefix_v4") false tailnet_v4 table refl refl) in
    let v6 = and_parts _ _ (prefix_in (codes "prefix_v6") true tailnet_v6 table refl refl) in
    record {
      base_domain = good_base;
      dns = dns_fits base table (and_parts _ _ good_base).1 suffixes;
      ephemeral_seconds = number_in (codes "ephemeral_seconds") 1 SECONDS_LIMIT EPHEMERAL_SECONDS_DEFAULT table refl (omega arith, omega arith);
      key_seconds = (number_in (codes "key_seconds") 0 SECONDS_LIMIT KEY_SECONDS_DEFAULT table refl (omega arith, omega arith)).1;
      pending_seconds = number_in (codes "pending_seconds") 1 SECONDS_LIMIT PENDING_SECONDS_DEFAULT table refl (omega arith, omega arith);
      prefix_v4 = v4.0;
      prefix_v4_len = small _ PREFIX_V4_LEN_LIMIT v4.1;
      prefix_v6 = v6.0;
      prefix_v6_len = small _ PREFIX_V6_LEN_LIMIT v6.1;
      workers = number_in (codes "workers") 1 WORKER_LIMIT WORKERS_DEFAULT table refl (omega arith, omega arith);
    }

pub server_fits : (url token : List ℕ) (table : Members) → is_visible url ≡ true → is_visible token ≡ true → AreServerSettings (server_fields_of url token table)
unfolding rule_of
server_fits url token table good_url good_token = record {
  connections = (number_in (codes "connections") 0 COUNT_LIMIT CONNECTIONS_DEFAULT table refl (omega arith, omega arith)).1;
  poll_turns = number_in (codes "poll_turns") 1 COUNT_LIMIT POLL_TURNS_DEFAULT table refl (omega arith, omega arith);
  requests = number_in (codes "requests") 1 COUNT_LIMIT REQUESTS_DEFAULT table refl (omega arith, omega arith);
  server_url = good_url;
  token = good_token;
}

pub base_domain_in : (table : Members) (t : List ℕ) → required (codes "base_domain") table ≡ Ok t → is_base_domain t ≡ true
unfolding rule_of
base_domain_in table t there = text_in (codes "base_domain") BaseDomain table t refl there

pub server_url_in : (table : Members) (t : List ℕ) → required (codes "server_url") table ≡ Ok t → is_visible t ≡ true
unfolding rule_of
server_url_in table t there = text_in (codes "server_url") Visible table t refl there

pub token_in : (table : Members) (t : List ℕ) → required (codes "token") table ≡ Ok t → is_visible t ≡ true
unfolding rule_of
token_in table t there = text_in (codes "token") Visible table t refl there
