-- What flags say of machines is what their ends say.
use Rattle.std.proofs.Common.{◌≡◌, ◌+◌, ◌&&◌, ◌||◌, ℕ, Bool, true, false, List, [], ◌∷◌, ◌++◌, ◌⊎◌, length, append_assoc, length-append, inl, inr, refl, sym, ap, ◌∙◌, not, subst, if◌then◌else◌}
use Rattle.std.specs.Prelude.{Contains, Option, Some, filter, flat_map, slice_get, slice_index_or}
use Rattle.std.specs.List.{list_any}
use Rattle.std.specs.Option.{option_map_or}
use Rattle.std.proofs.lemmas.Bool.{and_from, and_parts, cases_Bool, or_cases, or_left, or_right}
use Rattle.std.proofs.lemmas.List.Elements.{Contains-append_cases, Contains-append_left}
use Rattle.std.proofs.lemmas.Option.{get_or_from_slice_get}
use Rattle.tail_base.proofs.Bools.{same_tests}
use Rattle.net_rows.proofs.Members.{cut_member, first_member, list_any_found, list_any_is, no_member, rest_member}
use Rattle.policy_rows.specs.Named.{members_of}
use Rattle.policy_rows.specs.declared.dest.Dest.{Dest}
use Rattle.policy_rows.specs.declared.group.Group.{Group}
use Rattle.policy_rows.specs.declared.rule.Rule.{Rule}
use Rattle.policy_rows.specs.declared.selector.Selector.{Selector}
use Rattle.policy_rows.specs.declared.selector.Selector.TheVariants as sel
use Rattle.policy_rows.specs.declared.test.Test.{Test}
use Rattle.policy_sites.specs.ByRule.{covers_served, covers_site, sends, takes}
use Rattle.policy_sites.specs.Covers.{covers, is_own_devices, joins_own}
use Rattle.policy_sites.specs.Grants.{some_source}
use Rattle.policy_sites.specs.declared.end.End.{End}
use Rattle.policy_sites.specs.declared.site.Site.{Site}
use Rattle.policy_eval.specs.Expansion.{Expansion}
use Rattle.policy_tests.specs.Sides.{is_met_by, joins_machine, lets_by, names_machine, passes_at, places_from, side_joins, side_of, side_sends, side_takes, takes_by}
use Rattle.policy_tests.specs.TestEnds.{ends_of, has_tag, is_users, machine_end, site_ends, tag_phantom, user_ends, user_phantom}
use Rattle.policy_tests.specs.Tests.{port_of}
use Rattle.policy_tests.specs.Trials.{core_of, denied_by, is_open, some_passes}
use Rattle.policy_tests.specs.declared.side.Side.{Side}
use Rattle.policy_tests.proofs.CoreLemmas.{core_inside, flat_member, kept_passes, member_flat, own_by_core}
use Rattle.policy_tests.proofs.DenyLemmas.{any_same, is_met, lets_some, met_own, met_plainly, passes_by_rules}

-- ---- places

get_here : {A : Type 0} (before : List A) (x : A) (xs : List A) → slice_get (before ++ x ∷ xs) (length before) ≡ Some x
get_here [] x xs = refl
get_here (z ∷ before) x xs = get_here before x xs

-- of the machines that are named some passes, place by place or one by one
passed_at : (named test : Site → Bool) (before xs : List Site) → list_any (passes_at (before ++ xs) test) (places_from named (length before) xs) ≡ list_any (λ m. named m && test m) xs
passed_at named test before [] = refl
passed_at named test before (x ∷ xs) =
    let all = passes_at (before ++ x ∷ xs) test in
    let long : length (before ++ x ∷ []) ≡ length before + 1 = length-append before (x ∷ []) in
    let same : (before ++ x ∷ []) ++ xs ≡ before ++ x ∷ xs = append_assoc before (x ∷ []) xs in
    let rest : list_any all (places_from named (length before + 1) xs) ≡ list_any (λ m. named m && test m) xs =
    (λ i. list_any (passes_at (sym same i) test) (places_from named (sym long i) xs)) ∙ passed_at named test (before ++ x ∷ []) xs in
    let here : all (length before) ≡ test x = ap (λ (o : Option Site). option_map_or test o false) (get_here before x xs) in
    elim (cases_Bool (named x)) [
      | inl is ↦ rw is (λ i. here i || rest i)
      | inr not ↦ rw not rest
    ]

-- ---- the ends of machines, and the others

filter_member : {A : Type 0} (test : A → Bool) (xs : List A) (a : A) → Contains (filter test xs) a → Contains xs a
filter_member test [] a m = absurd (no_member a m)
filter_member {A} test (x ∷ xs) a m =
    elim (cases_Bool (test x)) [
      | inl passes ↦ elim (cut_member x (filter test xs) a (rw passes at m)) [
        | inl e ↦ rw e (first_member x xs)
        | inr r ↦ rest_member x xs a (filter_member test xs a r)
      ]
      | inr fails ↦ rest_member x xs a (filter_member test xs a (rw fails at m))
    ]

member_filter : {A : Type 0} (test : A → Bool) (xs : List A) (a : A) → Contains xs a → test a ≡ true → Contains (filter test xs) a
member_filter test [] a m h = absurd (no_member a m)
member_filter {A} test (x ∷ xs) a m h =
    elim (cut_member x xs a m) [
      | inl e ↦ let passes : test x ≡ true = ap test (sym e) ∙ h in rw passes (subst (λ (z : A). Contains (x ∷ filter test xs) z) (sym e) (first_member x (filter test xs)))
      | inr r ↦ elim (cases_Bool (test x)) [
        | inl passes ↦ rw passes (rest_member x (filter test xs) a (member_filter test xs a r h))
        | inr fails ↦ rw fails (member_filter test xs a r h)
      ]
    ]

-- an end of a machine that is named, or one of those without
abbrev IsOf : List Site → (Site → Bool) → List End → End → Type 0
IsOf sites named core e = ((m : Site) × Contains sites m × (named m ≡ true) × Contains (site_ends m) e) ⊎ Contains core e

user_parts : (sites : List Site) (login : List ℕ) (e : End) → Contains (user_ends sites login) e → IsOf sites (is_users login) (user_ends [] login) e
user_parts sites login e inside =
    elim (Contains-append_cases (flat_map site_ends (filter (is_users login) sites)) (user_phantom login ∷ []) e inside) [
      | inl of_machine ↦
          let at = flat_member site_ends (filter (is_users login) sites) e of_machine in
          inl (at.0, filter_member (is_users login) sites at.0 at.1, kept_passes (is_users login) sites at.0 at.1, at.2)
      | inr last ↦ inr last
    ]

parts_of : (groups : List Group) (sites : List Site) (selector : Selector) (e : End) → Contains (ends_of groups sites selector) e → IsOf sites (names_machine groups selector) (core_of groups sites selector) e
parts_of groups sites (sel.User login) e inside = user_parts sites login e inside
parts_of groups sites (sel.Group name) e inside =
    let logins = members_of groups name in
    let at = flat_member (user_ends sites) logins e inside in
    elim (user_parts sites at.0 e at.2) [
      | inl of_machine ↦ inl (of_machine.0, of_machine.1, list_any_is (λ login. is_users login of_machine.0) logins at.0 at.1 of_machine.2, of_machine.3)
      | inr last ↦ inr (member_flat (user_ends []) logins at.0 e at.1 last)
    ]
parts_of groups sites (sel.Tagged tag) e inside =
    elim (Contains-append_cases (flat_map site_ends (filter (has_tag tag) sites)) (tag_phantom tag ∷ []) e inside) [
      | inl of_machine ↦
          let at = flat_member site_ends (filter (has_tag tag) sites) e of_machine in
          inl (at.0, filter_member (has_tag tag) sites at.0 at.1, kept_passes (has_tag tag) sites at.0 at.1, at.2)
      | inr last ↦ inr last
    ]
parts_of groups sites (sel.Net net) e inside = inr inside
parts_of groups sites sel.All e inside = inr inside
parts_of groups sites sel.Member e inside = inr inside
parts_of groups sites sel.AllTagged e inside = inr inside
parts_of groups sites sel.Internet e inside = inr inside
parts_of groups sites sel.OwnDevices e inside = inr inside

user_has : (sites : List Site) (login : List ℕ) (m : Site) (e : End) → Contains sites m → is_users login m ≡ true → Contains (site_ends m) e → Contains (user_ends sites login) e
user_has sites login m e inside named end =
    Contains-append_left (flat_map site_ends (filter (is_users login) sites)) (user_phantom login ∷ []) e
    (member_flat site_ends (filter (is_users login) sites) m e (member_filter (is_users login) sites m inside named) end)

machine_inside : (groups : List Group) (sites : List Site) (selector : Selector) (m : Site) (e : End) → Contains sites m → names_machine groups selector m ≡ true → Contains (site_ends m) e
    → Contains (ends_of groups sites selector) e
machine_inside groups sites (sel.User login) m e inside named end = user_has sites login m e inside named end
machine_inside groups sites (sel.Group name) m e inside named end =
    let logins = members_of groups name in
    let at = list_any_found (λ login. is_users login m) logins named in
    member_flat (user_ends sites) logins at.0 e at.1 (user_has sites at.0 m e inside at.2 end)
machine_inside groups sites (sel.Tagged tag) m e inside named end =
    Contains-append_left (flat_map site_ends (filter (has_tag tag) sites)) (tag_phantom tag ∷ []) e
    (member_flat site_ends (filter (has_tag tag) sites) m e (member_filter (has_tag tag) sites m inside named) end)
machine_inside groups sites (sel.Net net) m e inside named end = absurd (cc)
machine_inside groups sites sel.All m e inside named end = absurd (cc)
machine_inside groups sites sel.Member m e inside named end = absurd (cc)
machine_inside groups sites sel.AllTagged m e inside named end = absurd (cc)
machine_inside groups sites sel.Internet m e inside named end = absurd (cc)
machine_inside groups sites sel.OwnDevices m e inside named end = absurd (cc)

-- some end passes exactly where one of a machine does, or one of those without
ends_by : (groups : List Group) (sites : List Site) (selector : Selector) (p : End → Bool)
    → (list_any (λ m. names_machine groups selector m && list_any p (site_ends m)) sites || list_any p (core_of groups sites selector)) ≡ list_any p (ends_of groups sites selector)
ends_by groups sites selector p = same_tests (machines || rest) (list_any p ends) to from
  where
    ends : List End
    ends = ends_of groups sites selector

    each : Site → Bool
    each m = names_machine groups selector m && list_any p (site_ends m)

    machines : Bool
    machines = list_any each sites

    rest : Bool
    rest = list_any p (core_of groups sites selector)

    to : (machines || rest) ≡ true → list_any p ends ≡ true
    to h = elim (or_cases machines rest h) [
      | inl some ↦
          let at = list_any_found each sites some in
          let parts = and_parts (names_machine groups selector at.0) (list_any p (site_ends at.0)) at.2 in
          let end = list_any_found p (site_ends at.0) parts.1 in
          list_any_is p ends end.0 (machine_inside groups sites selector at.0 end.0 at.1 parts.0 end.1) end.2
      | inr some ↦
          let at = list_any_found p (core_of groups sites selector) some in
          list_any_is p ends at.0 (core_inside groups sites selector at.0 at.1) at.2
    ]

    from : list_any p ends ≡ true → (machines || rest) ≡ true
    from h =
        let at = list_any_found p ends h in
        elim (parts_of groups sites selector at.0 at.1) [
          | inl m ↦ or_left machines rest
              (list_any_is each sites m.0 m.1 (and_from (names_machine groups selector m.0) (list_any p (site_ends m.0)) m.2 (list_any_is p (site_ends m.0) at.0 m.3 at.2)))
          | inr core ↦ or_right machines rest (list_any_is p (core_of groups sites selector) at.0 core at.2)
        ]

-- the same by the places of machines, of each of which a test says what its ends say
side_any : (x : Expansion) (selector : Selector) (test : Site → Bool) (p : End → Bool) → ((m : Site) → test m ≡ list_any p (site_ends m))
    → (list_any (passes_at x.sites test) (side_of x selector).machines || list_any p (side_of x selector).core) ≡ list_any p (ends_of x.groups x.sites selector)
side_any x selector test p same =
    let named = names_machine x.groups selector in
    let machines = passed_at named test [] x.sites ∙ any_same (λ m. named m && test m) (λ m. named m && list_any p (site_ends m)) x.sites (λ m. ap (λ (b : Bool). named m && b) (same m)) in
    (λ i. machines i || list_any p (core_of x.groups x.sites selector)) ∙ ends_by x.groups x.sites selector p

-- ---- one machine's ends

four_or : (a b m n : Bool) → ((a || m) || ((b || n) || false)) ≡ ((a || (b || false)) || (m || (n || false)))
four_or true b m n = refl
four_or false true true n = refl
four_or false true false n = refl
four_or false false true n = refl
four_or false false false n = refl

two_any : {A : Type 0} (p q : A → Bool) (xs : List A) → (list_any p xs || (list_any q xs || false)) ≡ list_any (λ x. p x || (q x || false)) xs
two_any p q [] = refl
two_any p q (x ∷ xs) = four_or (p x) (q x) (list_any p xs) (list_any q xs) ∙ ap (λ (b : Bool). (p x || (q x || false)) || b) (two_any p q xs)

sends_by_ends : (groups : List Group) (r : Rule) (m : Site) → sends groups r m ≡ list_any (some_source groups r) (site_ends m)
sends_by_ends groups r m = sym (two_any (λ s. covers groups s (machine_end m m.v4)) (λ s. covers groups s (machine_end m m.v6)) r.sources)

and_implied : (a b : Bool) → (b ≡ true → a ≡ true) → (a && b) ≡ b
and_implied true b h = refl
and_implied false false h = refl
and_implied false true h = absurd (cc (h refl))

takes_by_ends : (groups : List Group) (r : Rule) (entry : Dest) (m : Site) → Contains r.dests entry → takes_by groups r entry m ≡ list_any (λ d. covers groups entry.to d) (site_ends m)
takes_by_ends groups r entry m inside =
    and_implied (takes groups r m) (covers_site groups m entry.to)
    (λ own. list_any_is (λ (e : Dest). covers_served groups m e.to) r.dests entry inside (own_served own))
  where
    or_true : (a b : Bool) → a ≡ true → (a || b) ≡ true
    or_true true b h = refl
    or_true false b h = absurd (cc)

    own_served : covers_site groups m entry.to ≡ true → covers_served groups m entry.to ≡ true
    own_served own = or_true (covers_site groups m entry.to) _ own

and_twice : (a b j : Bool) → ((a || (b || false)) && j) ≡ ((a && j) || ((b && j) || false))
and_twice true b true = refl
and_twice true true false = refl
and_twice true false false = refl
and_twice false true true = refl
and_twice false true false = refl
and_twice false false j = refl

joins_by_ends : (groups : List Group) (r : Rule) (m : Site) (ds : List End) → (sends groups r m && joins_machine m ds) ≡ list_any (λ s. some_source groups r s && list_any (joins_own s) ds) (site_ends m)
joins_by_ends groups r m ds =
    ap (λ (b : Bool). b && joins_machine m ds) (sends_by_ends groups r m)
    ∙ and_twice (some_source groups r (machine_end m m.v4)) (some_source groups r (machine_end m m.v6)) (joins_machine m ds)

-- ---- what the code has at hand: a flag at two places, and a test behind it

flag_is : (rules : List Rule) (sites : List Site) (at place : ℕ) (r : Rule) (m : Site) (test : Rule → Site → Bool) (flag : Bool) → slice_get rules at ≡ Some r → slice_get sites place ≡ Some m
    → ((z : Rule) (y : Site) → flag ≡ test (slice_index_or rules at z) (slice_index_or sites place y)) → flag ≡ test r m
flag_is rules sites at place r m test flag here there told =
    told r m ∙ (λ i. test (get_or_from_slice_get rules at r r here i) (get_or_from_slice_get sites place m m there i))

pub passes_behind : (rules : List Rule) (sites : List Site) (at place : ℕ) (r : Rule) (m : Site) (first : Rule → Site → Bool) (second : Site → Bool) (flag last : Bool)
    → slice_get rules at ≡ Some r → slice_get sites place ≡ Some m → ((z : Rule) (y : Site) → flag ≡ first (slice_index_or rules at z) (slice_index_or sites place y))
    → flag ≡ true → last ≡ second m → last ≡ passes_at sites (λ y. first r y && second y) place
passes_behind rules sites at place r m first second flag last here there told set passes =
    let both : true ≡ first r m = sym set ∙ flag_is rules sites at place r m first flag here there told in
    let found = ap (λ (o : Option Site). option_map_or (λ y. first r y && second y) o false) there in
    passes ∙ ((λ i. both i && second m) ∙ sym found)

pub fails_before : (rules : List Rule) (sites : List Site) (at place : ℕ) (r : Rule) (m : Site) (first : Rule → Site → Bool) (second : Site → Bool) (flag : Bool)
    → slice_get rules at ≡ Some r → slice_get sites place ≡ Some m → ((z : Rule) (y : Site) → flag ≡ first (slice_index_or rules at z) (slice_index_or sites place y))
    → flag ≡ false → flag ≡ passes_at sites (λ y. first r y && second y) place
fails_before rules sites at place r m first second flag here there told unset =
    let none : false ≡ first r m = sym unset ∙ flag_is rules sites at place r m first flag here there told in
    let found = ap (λ (o : Option Site). option_map_or (λ y. first r y && second y) o false) there in
    unset ∙ ((λ i. none i && second m) ∙ sym found)

-- ---- a destination, a rule, and all of them

met_by_flags : (x : Expansion) (subject to : Selector) (r : Rule) (entry : Dest) → Contains r.dests entry
    → is_met_by x (side_of x subject) (side_of x to) r entry ≡ is_met x.groups (ends_of x.groups x.sites subject) (ends_of x.groups x.sites to) r entry
met_by_flags x subject to r entry inside =
    elim (cases_Bool (is_own_devices entry.to)) [
      | inl own ↦ whole own ∙ (joins ∙ met_own x.groups ss ds core r entry own (own_by_core x.groups x.sites to))
      | inr not ↦ whole not ∙ ((λ i. sources i && dests i) ∙ met_plainly x.groups ss ds r entry not)
    ]
  where
    ss : List End
    ss = ends_of x.groups x.sites subject

    ds : List End
    ds = ends_of x.groups x.sites to

    core : List End
    core = core_of x.groups x.sites to

    branch : Bool → Bool
    branch own = if own then side_joins x r (side_of x subject) core else (side_sends x r (side_of x subject) && side_takes x r entry (side_of x to))

    whole : {b : Bool} → is_own_devices entry.to ≡ b → branch (is_own_devices entry.to) ≡ branch b
    whole is = ap branch is

    joins : side_joins x r (side_of x subject) core ≡ list_any (λ s. some_source x.groups r s && list_any (joins_own s) core) ss
    joins =
        side_any x subject (λ m. sends x.groups r m && joins_machine m core) (λ s. some_source x.groups r s && list_any (joins_own s) core) (λ m. joins_by_ends x.groups r m core)

    sources : side_sends x r (side_of x subject) ≡ list_any (some_source x.groups r) ss
    sources = side_any x subject (sends x.groups r) (some_source x.groups r) (λ m. sends_by_ends x.groups r m)

    dests : side_takes x r entry (side_of x to) ≡ list_any (λ d. covers x.groups entry.to d) ds
    dests = side_any x to (takes_by x.groups r entry) (λ d. covers x.groups entry.to d) (λ m. takes_by_ends x.groups r entry m inside)

any_inside : {A : Type 0} (f g : A → Bool) (xs : List A) → ((a : A) → Contains xs a → f a ≡ g a) → list_any f xs ≡ list_any g xs
any_inside f g [] same = refl
any_inside f g (x ∷ xs) same =
    let rest = any_inside f g xs (λ a m. same a (rest_member x xs a m)) in
    λ i. same x (first_member x xs) i || rest i

lets_by_flags : (x : Expansion) (subject to : Selector) (proto : Option ℕ) (port : ℕ) (r : Rule)
    → lets_by x proto port (side_of x subject) (side_of x to) r ≡ lets_some x.groups proto port (ends_of x.groups x.sites subject) (ends_of x.groups x.sites to) r
lets_by_flags x subject to proto port r =
    any_inside (λ entry. is_open proto port r entry && is_met_by x (side_of x subject) (side_of x to) r entry)
    (λ entry. is_open proto port r entry && is_met x.groups (ends_of x.groups x.sites subject) (ends_of x.groups x.sites to) r entry) r.dests
    (λ entry inside. ap (λ (b : Bool). is_open proto port r entry && b) (met_by_flags x subject to r entry inside))

-- Some rule lets some end of one side through to one of the other exactly where some pair of them passes.
sides_pass : (x : Expansion) (subject to : Selector) (proto : Option ℕ) (port : ℕ)
    → list_any (lets_by x proto port (side_of x subject) (side_of x to)) x.rules ≡ some_passes x.groups x.rules proto port (ends_of x.groups x.sites subject) (ends_of x.groups x.sites to)
sides_pass x subject to proto port =
    any_same (lets_by x proto port (side_of x subject) (side_of x to)) (lets_some x.groups proto port (ends_of x.groups x.sites subject) (ends_of x.groups x.sites to)) x.rules
    (λ r. lets_by_flags x subject to proto port r)
    ∙ passes_by_rules x.groups x.rules proto port (ends_of x.groups x.sites subject) (ends_of x.groups x.sites to)

-- the same of what the code has at hand
pub denied_is : (x : Expansion) (t : Test) (e : Dest) (port : ℕ) (ss ds : Side) (lets : Bool) → lets ≡ list_any (lets_by x t.proto port ss ds) x.rules → port ≡ port_of e → ss ≡ side_of x t.subject → ds ≡ side_of x e.to
    → not lets ≡ denied_by x.groups x.rules x.sites t e
denied_is x t e port ss ds lets told ports sources dests =
    ap not (told ∙ ((λ i. list_any (lets_by x t.proto (ports i) (sources i) (dests i)) x.rules) ∙ sides_pass x t.subject e.to t.proto (port_of e)))
