-- The routes of a table stand in the order of its keys.
use Rattle.std.proofs.Common.{◌≡◌, ℕ, List, [], ◌∷◌, Some, Result, Ok, Err, IfOk, String, Global, Less, ap, sym, subst, string_bytes, option_map}
use Rattle.std.specs.Cmp.Lexicographic.{slice_cmp}
use Rattle.std.specs.List.{AllByRecursion}
use Rattle.std.specs.List.Sorted.{IsStrictlySortedBy}
use Rattle.std.specs.Map.{keys_of}
use Rattle.std.specs.Ordering.{nat_cmp}
use Rattle.std.specs.Result.{result_unwrap_or}
use Rattle.std.specs.String.{string_cmp}
use Rattle.std.specs.declared.cmp.Ordering.{Ordering}
use Rattle.toml.specs.Data.{Data}
use Rattle.toml.specs.View.{members_view, view}
use Rattle.toml.specs.declared.value.Value.{Value}
use Rattle.tailcfg.specs.declared.dns.DnsRoute.{DnsRoute}
use Rattle.settings.specs.Settings.{is_domain, suffix_cmp}
use Rattle.tail_words.specs.SettingsValues.{addresses, each_route, member_texts, route, route_texts, texts}
use Rattle.tail_words.specs.declared.fault.SettingsRule.{SettingsRule}
use Rattle.tail_words.specs.declared.lists.RouteTexts.{RouteTexts}
use Rattle.tail_words.proofs.FieldLemmas.{before_parts, if_parts, made_route, map_parts}

abbrev texts_cmp : RouteTexts → RouteTexts → Ordering
texts_cmp a b = slice_cmp nat_cmp a.suffix b.suffix

-- texts have the suffix that they stand at
texts_suffix : (suffix : List ℕ) (d : Data) (r : RouteTexts) → route_texts suffix d ≡ Some r → suffix ≡ r.suffix
texts_suffix suffix d r h = ap (λ (x : RouteTexts). x.suffix) (map_parts _ (texts d) r h).2

-- a route has the suffix of its texts
route_suffix : (r : RouteTexts) (made : DnsRoute) → route r ≡ Some made → r.suffix ≡ made.suffix
route_suffix r made h =
    let parts = if_parts (is_domain r.suffix) (option_map (made_route r) (addresses r.resolvers)) made h in
    ap (λ (x : DnsRoute). x.suffix) (map_parts (made_route r) (addresses r.resolvers) made parts.1).2

-- a key that is below those of entries is below the suffixes of their texts
below_texts : (k : List ℕ) (es : List (String Global × Value)) (rs : List RouteTexts) → AllByRecursion (λ y. slice_cmp nat_cmp k (string_bytes y) ≡ Less) (keys_of es)
    → member_texts (members_view es) ≡ Some rs → AllByRecursion (λ (r : RouteTexts). slice_cmp nat_cmp k r.suffix ≡ Less) rs
below_texts k [] rs below h = let same : [] ≡ rs = cc in subst (AllByRecursion (λ (r : RouteTexts). slice_cmp nat_cmp k r.suffix ≡ Less)) same tt
below_texts k (e ∷ es) rs below h =
    let parts = before_parts (route_texts (string_bytes e.0) (view e.1)) (member_texts (members_view es)) rs h in
    let suffix = texts_suffix (string_bytes e.0) (view e.1) parts.0 parts.2 in
    subst (AllByRecursion (λ (r : RouteTexts). slice_cmp nat_cmp k r.suffix ≡ Less)) parts.4
    (subst (λ t. slice_cmp nat_cmp k t ≡ Less) suffix below.0, below_texts k es parts.1 below.1 parts.3)

texts_rise : (es : List (String Global × Value)) (rs : List RouteTexts) → IsStrictlySortedBy string_cmp (keys_of es) → member_texts (members_view es) ≡ Some rs
    → IsStrictlySortedBy texts_cmp rs
unfolding IsStrictlySortedBy
texts_rise [] rs rise h = let same : [] ≡ rs = cc in subst (IsStrictlySortedBy texts_cmp) same tt
texts_rise (e ∷ es) rs rise h =
    let parts = before_parts (route_texts (string_bytes e.0) (view e.1)) (member_texts (members_view es)) rs h in
    let suffix = texts_suffix (string_bytes e.0) (view e.1) parts.0 parts.2 in
    let all = below_texts (string_bytes e.0) es parts.1 rise.0 parts.3 in
    subst (IsStrictlySortedBy texts_cmp) parts.4
    (subst (λ t. AllByRecursion (λ (r : RouteTexts). slice_cmp nat_cmp t r.suffix ≡ Less) parts.1) suffix all, texts_rise es parts.1 rise.1 parts.3)

-- a suffix that is below those of texts is below those of their routes
below_routes : (k : List ℕ) (rs : List RouteTexts) (made : List DnsRoute) → AllByRecursion (λ (r : RouteTexts). slice_cmp nat_cmp k r.suffix ≡ Less) rs
    → each_route rs ≡ Some made → AllByRecursion (λ (r : DnsRoute). slice_cmp nat_cmp k r.suffix ≡ Less) made
below_routes k [] made below h = let same : [] ≡ made = cc in subst (AllByRecursion (λ (r : DnsRoute). slice_cmp nat_cmp k r.suffix ≡ Less)) same tt
below_routes k (r ∷ rs) made below h =
    let parts = before_parts (route r) (each_route rs) made h in
    subst (AllByRecursion (λ (x : DnsRoute). slice_cmp nat_cmp k x.suffix ≡ Less)) parts.4
    (subst (λ t. slice_cmp nat_cmp k t ≡ Less) (route_suffix r parts.0 parts.2) below.0, below_routes k rs parts.1 below.1 parts.3)

routes_rise : (rs : List RouteTexts) (made : List DnsRoute) → IsStrictlySortedBy texts_cmp rs → each_route rs ≡ Some made → IsStrictlySortedBy suffix_cmp made
unfolding IsStrictlySortedBy
routes_rise [] made rise h = let same : [] ≡ made = cc in subst (IsStrictlySortedBy suffix_cmp) same tt
routes_rise (r ∷ rs) made rise h =
    let parts = before_parts (route r) (each_route rs) made h in
    let all = below_routes r.suffix rs parts.1 rise.0 parts.3 in
    subst (IsStrictlySortedBy suffix_cmp) parts.4
    (subst (λ t. AllByRecursion (λ (x : DnsRoute). slice_cmp nat_cmp t x.suffix ≡ Less) parts.1) (route_suffix r parts.0 parts.2) all, routes_rise rs parts.1 rise.1 parts.3)

-- routes that were read of a table rise, as its keys do
pub read_routes_rise : (es : List (String Global × Value)) (rs : List RouteTexts) (made : List DnsRoute) → IsStrictlySortedBy string_cmp (keys_of es)
    → member_texts (members_view es) ≡ Some rs → each_route rs ≡ Some made → IsStrictlySortedBy suffix_cmp made
read_routes_rise es rs made rise read spelt = routes_rise rs made (texts_rise es rs rise read) spelt

pub none_rise : (l : List DnsRoute) → l ≡ [] → IsStrictlySortedBy suffix_cmp l
unfolding IsStrictlySortedBy
none_rise l none = subst (IsStrictlySortedBy suffix_cmp) (sym none) tt

-- routes that were read, or none
pub unwrapped_rise : (r : Result (List DnsRoute) SettingsRule) (none : List DnsRoute) → none ≡ [] → IfOk r (IsStrictlySortedBy suffix_cmp)
    → IsStrictlySortedBy suffix_cmp (result_unwrap_or r none)
unwrapped_rise (Ok l) none is h = h
unwrapped_rise (Err fault) none is h = none_rise none is
