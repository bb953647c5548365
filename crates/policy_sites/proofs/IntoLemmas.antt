-- Which selectors cover addresses that no machine has.
use Rattle.std.proofs.Common.{◌≡◌, ◌<◌, ◌&&◌, ◌||◌, ◌∙◌, Bool, true, false, List, [], ◌∷◌, ap, arith, inl, inr, refl, sym}
use Rattle.std.specs.List.{list_any}
use Rattle.std.proofs.Math.Bool.{and-false}
use Rattle.std.proofs.lemmas.Bool.{both_ways, false_from_ne_true, or_cases, or_left, or_right}
use Rattle.tail_base.proofs.Bools.{same_tests}
use Rattle.net_addr.specs.Bits.{Address, Block, family_size}
use Rattle.net_addr.specs.Blocks.{holds, last_of}
use Rattle.net_addr.specs.Searches.{some_address}
use Rattle.net_addr.proofs.SearchLemmas.{address_finds, address_found}
use Rattle.range_sets.specs.Sets.{some_holds}
use Rattle.policy_rows.specs.Internet.{is_internet}
use Rattle.policy_rows.specs.declared.selector.Selector.{Selector}
use Rattle.policy_rows.specs.declared.selector.Selector.TheVariants as sel
use Rattle.policy_sites.specs.Beyond.{covers_free, covers_into, met_by, shares_internet, shares_net}
use Rattle.policy_sites.specs.Sites.{serves_beyond}
use Rattle.policy_sites.specs.declared.site.Site.{Site}
use Rattle.policy_sites.proofs.InternetLemmas.{route_some}

-- a search for what no address passes
pub some_none : (test : Address → Bool) → ((addr : Address) → test addr ≡ false) → some_address test ≡ false
some_none test fails =
    false_from_ne_true (some_address test) (λ h. let found = address_finds test h in both_ways (test found.0) (fails found.0) found.2)

-- for what passes either of two tests
pub some_or : (p q : Address → Bool) → some_address (λ addr. p addr || q addr) ≡ (some_address p || some_address q)
some_or p q = same_tests (some_address either) (some_address p || some_address q) to from
  where
    either : Address → Bool
    either addr = p addr || q addr

    to : some_address either ≡ true → (some_address p || some_address q) ≡ true
    to h =
        let found = address_finds either h in
        elim (or_cases (p found.0) (q found.0) found.2) [
          | inl first ↦ or_left (some_address p) (some_address q) (address_found p found.0 found.1 first)
          | inr second ↦ or_right (some_address p) (some_address q) (address_found q found.0 found.1 second)
        ]

    from : (some_address p || some_address q) ≡ true → some_address either ≡ true
    from h = elim (or_cases (some_address p) (some_address q) h) [
      | inl first ↦ (let found = address_finds p first in address_found either found.0 found.1 (or_left (p found.0) (q found.0) found.2))
      | inr second ↦ (let found = address_finds q second in address_found either found.0 found.1 (or_right (p found.0) (q found.0) found.2))
    ]

and_shared : (a m c : Bool) → ((a || m) && c) ≡ ((a && c) || (m && c))
and_shared true true true = refl
and_shared true true false = refl
and_shared true false true = refl
and_shared true false false = refl
and_shared false m c = refl

and_moved : (a i c : Bool) → ((a && i) && c) ≡ (a && (i && c))
and_moved true i c = refl
and_moved false i c = refl

-- into one of the routes
routes_into : (routes : List Block) (selector : Selector)
    → some_address (λ addr. some_holds routes addr && covers_free selector addr) ≡ list_any (λ route. covers_into (holds route) selector) routes
routes_into [] selector = some_none (λ addr. false && covers_free selector addr) (λ addr. refl)
routes_into (route ∷ routes) selector =
    (λ i. some_address (λ addr. and_shared (holds route addr) (some_holds routes addr) (covers_free selector addr) i))
    ∙ (some_or (λ addr. holds route addr && covers_free selector addr) (λ addr. some_holds routes addr && covers_free selector addr)
    ∙ ap (λ (b : Bool). covers_into (holds route) selector || b) (routes_into routes selector))

-- into the internet, for an exit node
exit_into : (exit : Bool) (selector : Selector) → some_address (λ addr. (exit && is_internet addr) && covers_free selector addr) ≡ (exit && covers_into is_internet selector)
exit_into true selector = refl
exit_into false selector = some_none (λ addr. (false && is_internet addr) && covers_free selector addr) (λ addr. refl)

-- A selector covers something that a machine serves beside its own addresses where it covers something of one of its
-- routes, or, for an exit node, of the internet.
pub beyond_into : (site : Site) (selector : Selector)
    → (list_any (λ route. covers_into (holds route) selector) site.approved || (site.exit && covers_into is_internet selector)) ≡ covers_into (serves_beyond site) selector
beyond_into site selector =
    let by_routes : Address → Bool = λ addr. some_holds site.approved addr && covers_free selector addr in
    let by_exit : Address → Bool = λ addr. (site.exit && is_internet addr) && covers_free selector addr in
    let split : covers_into (serves_beyond site) selector ≡ some_address (λ addr. by_routes addr || by_exit addr) =
    λ i. some_address (λ addr. and_shared (some_holds site.approved addr) (site.exit && is_internet addr) (covers_free selector addr) i) in
    let both : (some_address by_routes || some_address by_exit) ≡ (list_any (λ route. covers_into (holds route) selector) site.approved || (site.exit && covers_into is_internet selector)) =
    λ i. routes_into site.approved selector i || exit_into site.exit selector i in
    sym (split ∙ (some_or by_routes by_exit ∙ both))

-- where it covers something of a route
pub by_route : (site : Site) (selector : Selector) → list_any (λ route. covers_into (holds route) selector) site.approved ≡ true → true ≡ covers_into (serves_beyond site) selector
by_route site selector h = (λ i. sym h i || (site.exit && covers_into is_internet selector)) ∙ beyond_into site selector

-- and where it doesn't
pub by_exit : (site : Site) (selector : Selector) → list_any (λ route. covers_into (holds route) selector) site.approved ≡ false
    → (site.exit && covers_into is_internet selector) ≡ covers_into (serves_beyond site) selector
by_exit site selector h = (λ i. sym h i || (site.exit && covers_into is_internet selector)) ∙ beyond_into site selector

-- a selector that covers none
none_into : (target : Address → Bool) → some_address (λ addr. target addr && false) ≡ false
none_into target = some_none (λ addr. target addr && false) (λ addr. and-false (target addr))

-- How a selector covers addresses of a set that has one, of which no machine has one.
met_into : (target : Address → Bool) (selector : Selector) → some_address (λ addr. target addr && true) ≡ true
    → met_by (λ net. some_address (λ addr. target addr && holds net addr)) (some_address (λ addr. target addr && is_internet addr)) selector ≡ covers_into target selector
met_into target sel.All some = sym some
met_into target (sel.Net net) some = refl
met_into target (sel.User login) some = sym (none_into target)
met_into target (sel.Group name) some = sym (none_into target)
met_into target (sel.Tagged tag) some = sym (none_into target)
met_into target sel.Member some = sym (none_into target)
met_into target sel.AllTagged some = sym (none_into target)
met_into target sel.Internet some = refl
met_into target sel.OwnDevices some = sym (none_into target)

-- of a route
pub route_into : (route : Block) (selector : Selector) → last_of route < family_size route.base.v6
    → met_by (shares_net route) (shares_internet route) selector ≡ covers_into (holds route) selector
route_into route selector ends = met_into (holds route) selector (route_some route ends)

a_public_address : Address
a_public_address = record { v6 = false; bits = 0 }

internet_some : some_address (λ addr. is_internet addr && true) ≡ true
unfolding a_public_address
internet_some = address_found (λ addr. is_internet addr && true) a_public_address (omega arith) refl

internet_twice : some_address (λ addr. is_internet addr && is_internet addr) ≡ true
unfolding a_public_address
internet_twice = address_found (λ addr. is_internet addr && is_internet addr) a_public_address (omega arith) refl

and_exchanged : (a b : Bool) → (a && b) ≡ (b && a)
and_exchanged true true = refl
and_exchanged true false = refl
and_exchanged false true = refl
and_exchanged false false = refl

-- of the internet
pub internet_into : (selector : Selector) → met_by shares_internet true selector ≡ covers_into is_internet selector
internet_into selector =
    let nets : shares_internet ≡ (λ net. some_address (λ addr. is_internet addr && holds net addr)) =
    λ i net. some_address (λ addr. and_exchanged (holds net addr) (is_internet addr) i) in
    (λ i. met_by (nets i) (sym internet_twice i) selector) ∙ met_into is_internet selector internet_some
