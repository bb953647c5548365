-- Some pair passes exactly where one rule lets some through.
use Rattle.std.proofs.Common.{◌≡◌, ◌&&◌, ◌||◌, ℕ, Bool, true, false, List, [], ◌∷◌, refl, sym, ap, ◌∙◌}
use Rattle.std.specs.Prelude.{Option}
use Rattle.std.specs.List.{list_any}
use Rattle.std.proofs.lemmas.Bool.{and_from, and_parts}
use Rattle.tail_base.proofs.Bools.{same_tests}
use Rattle.net_rows.proofs.Members.{list_any_found, list_any_is}
use Rattle.port_sets.specs.Protocols.{has_member}
use Rattle.policy_rows.specs.declared.dest.Dest.{Dest}
use Rattle.policy_rows.specs.declared.group.Group.{Group}
use Rattle.policy_rows.specs.declared.rule.Rule.{Rule}
use Rattle.policy_rows.specs.declared.selector.Selector.{Selector}
use Rattle.policy_rows.specs.declared.selector.Selector.TheVariants as sel
use Rattle.policy_sites.specs.Covers.{covers, dest_covers, is_own_devices, joins_own}
use Rattle.policy_sites.specs.Grants.{entry_grants, ports_hold, rule_grants, some_rule_grants, some_source}
use Rattle.policy_sites.specs.declared.end.End.{End}
use Rattle.policy_tests.specs.Tests.{protos_of}
use Rattle.policy_tests.specs.Trials.{is_open, pair_passes, some_passes}

-- ---- a destination is met

-- some end is a source of the rule, and for it the destination covers some of the others
abbrev pub is_met : List Group → List End → List End → Rule → Dest → Bool
is_met groups ss ds r entry = list_any (λ s. some_source groups r s && list_any (dest_covers groups entry.to s) ds) ss

-- a destination of the rule is open, and it is met
abbrev pub lets_some : List Group → Option ℕ → ℕ → List End → List End → Rule → Bool
lets_some groups proto port ss ds r = list_any (λ entry. is_open proto port r entry && is_met groups ss ds r entry) r.dests

pub any_same : {A : Type 0} (f g : A → Bool) (xs : List A) → ((x : A) → f x ≡ g x) → list_any f xs ≡ list_any g xs
any_same f g [] h = refl
any_same f g (x ∷ xs) h = rw (h x, any_same f g xs h) refl

both_or : (a b c : Bool) → ((a && c) || (b && c)) ≡ ((a || b) && c)
both_or true true true = refl
both_or true true false = refl
both_or true false true = refl
both_or true false false = refl
both_or false true true = refl
both_or false true false = refl
both_or false false c = refl

any_with : {A : Type 0} (f : A → Bool) (b : Bool) (xs : List A) → list_any (λ x. f x && b) xs ≡ (list_any f xs && b)
any_with f b [] = refl
any_with f b (x ∷ xs) = ap (λ c. (f x && b) || c) (any_with f b xs) ∙ both_or (f x) (list_any f xs) b

met_by : (groups : List Group) (ss ds : List End) (sources : End → Bool) (selector : Selector) → is_own_devices selector ≡ false
    → list_any (λ s. sources s && list_any (dest_covers groups selector s) ds) ss ≡ (list_any sources ss && list_any (λ d. covers groups selector d) ds)
met_by groups ss ds sources sel.All h = any_with sources (list_any (λ d. covers groups sel.All d) ds) ss
met_by groups ss ds sources (sel.Net net) h = any_with sources (list_any (λ d. covers groups (sel.Net net) d) ds) ss
met_by groups ss ds sources (sel.User login) h = any_with sources (list_any (λ d. covers groups (sel.User login) d) ds) ss
met_by groups ss ds sources (sel.Group name) h = any_with sources (list_any (λ d. covers groups (sel.Group name) d) ds) ss
met_by groups ss ds sources (sel.Tagged tag) h = any_with sources (list_any (λ d. covers groups (sel.Tagged tag) d) ds) ss
met_by groups ss ds sources sel.Member h = any_with sources (list_any (λ d. covers groups sel.Member d) ds) ss
met_by groups ss ds sources sel.AllTagged h = any_with sources (list_any (λ d. covers groups sel.AllTagged d) ds) ss
met_by groups ss ds sources sel.Internet h = any_with sources (list_any (λ d. covers groups sel.Internet d) ds) ss
met_by groups ss ds sources sel.OwnDevices h = absurd (cc)

met_own_by : (groups : List Group) (ss ds core : List End) (sources : End → Bool) (selector : Selector) → is_own_devices selector ≡ true
    → ((s : End) → list_any (joins_own s) core ≡ list_any (joins_own s) ds)
    → list_any (λ s. sources s && list_any (joins_own s) core) ss ≡ list_any (λ s. sources s && list_any (dest_covers groups selector s) ds) ss
met_own_by groups ss ds core sources sel.OwnDevices h own =
    any_same (λ s. sources s && list_any (joins_own s) core) (λ s. sources s && list_any (joins_own s) ds) ss (λ s. ap (λ b. sources s && b) (own s))
met_own_by groups ss ds core sources sel.All h own = absurd (cc)
met_own_by groups ss ds core sources (sel.Net net) h own = absurd (cc)
met_own_by groups ss ds core sources (sel.User login) h own = absurd (cc)
met_own_by groups ss ds core sources (sel.Group name) h own = absurd (cc)
met_own_by groups ss ds core sources (sel.Tagged tag) h own = absurd (cc)
met_own_by groups ss ds core sources sel.Member h own = absurd (cc)
met_own_by groups ss ds core sources sel.AllTagged h own = absurd (cc)
met_own_by groups ss ds core sources sel.Internet h own = absurd (cc)

pub met_plainly : (groups : List Group) (ss ds : List End) (r : Rule) (entry : Dest) → is_own_devices entry.to ≡ false
    → (list_any (some_source groups r) ss && list_any (λ d. covers groups entry.to d) ds) ≡ is_met groups ss ds r entry
met_plainly groups ss ds r entry h = sym (met_by groups ss ds (some_source groups r) entry.to h)

pub met_own : (groups : List Group) (ss ds core : List End) (r : Rule) (entry : Dest) → is_own_devices entry.to ≡ true
    → ((s : End) → list_any (joins_own s) core ≡ list_any (joins_own s) ds)
    → list_any (λ s. some_source groups r s && list_any (joins_own s) core) ss ≡ is_met groups ss ds r entry
met_own groups ss ds core r entry h own = met_own_by groups ss ds core (some_source groups r) entry.to h own

-- ---- pairs and rules

-- some pair by some protocol, through one rule
pair_lets : (groups : List Group) (rules : List Rule) (proto : Option ℕ) (port : ℕ) (ss ds : List End) → some_passes groups rules proto port ss ds ≡ true → list_any (lets_some groups proto port ss ds) rules ≡ true
pair_lets groups rules proto port ss ds h =
    let a = list_any_found (λ s. list_any (pair_passes groups rules proto port s) ds) ss h in
    let b = list_any_found (pair_passes groups rules proto port a.0) ds a.2 in
    let c = list_any_found (λ p. some_rule_grants groups rules a.0 b.0 p port) (protos_of proto) b.2 in
    let found = list_any_found (rule_grants groups a.0 b.0 c.0 port) rules c.2 in
    let r = found.0 in
    let p = and_parts (has_member r.protos c.0 && some_source groups r a.0) (list_any (entry_grants groups a.0 b.0 c.0 port) r.dests) found.2 in
    let q = and_parts (has_member r.protos c.0) (some_source groups r a.0) p.0 in
    let at = list_any_found (entry_grants groups a.0 b.0 c.0 port) r.dests p.1 in
    let entry = at.0 in
    let e = and_parts (dest_covers groups entry.to a.0 b.0) (ports_hold entry.ports c.0 port) at.2 in
    let open_at : is_open proto port r entry ≡ true =
    list_any_is (λ x. has_member r.protos x && ports_hold entry.ports x port) (protos_of proto) c.0 c.1 (and_from (has_member r.protos c.0) (ports_hold entry.ports c.0 port) q.0 e.1) in
    let met : is_met groups ss ds r entry ≡ true =
    list_any_is (λ s. some_source groups r s && list_any (dest_covers groups entry.to s) ds) ss a.0 a.1
    (and_from (some_source groups r a.0) (list_any (dest_covers groups entry.to a.0) ds) q.1 (list_any_is (dest_covers groups entry.to a.0) ds b.0 b.1 e.0)) in
    list_any_is (lets_some groups proto port ss ds) rules r found.1
    (list_any_is (λ x. is_open proto port r x && is_met groups ss ds r x) r.dests entry at.1 (and_from (is_open proto port r entry) (is_met groups ss ds r entry) open_at met))

lets_pair : (groups : List Group) (rules : List Rule) (proto : Option ℕ) (port : ℕ) (ss ds : List End) → list_any (lets_some groups proto port ss ds) rules ≡ true → some_passes groups rules proto port ss ds ≡ true
lets_pair groups rules proto port ss ds h =
    let found = list_any_found (lets_some groups proto port ss ds) rules h in
    let r = found.0 in
    let at = list_any_found (λ x. is_open proto port r x && is_met groups ss ds r x) r.dests found.2 in
    let entry = at.0 in
    let parts = and_parts (is_open proto port r entry) (is_met groups ss ds r entry) at.2 in
    let c = list_any_found (λ x. has_member r.protos x && ports_hold entry.ports x port) (protos_of proto) parts.0 in
    let q = and_parts (has_member r.protos c.0) (ports_hold entry.ports c.0 port) c.2 in
    let a = list_any_found (λ s. some_source groups r s && list_any (dest_covers groups entry.to s) ds) ss parts.1 in
    let e = and_parts (some_source groups r a.0) (list_any (dest_covers groups entry.to a.0) ds) a.2 in
    let b = list_any_found (dest_covers groups entry.to a.0) ds e.1 in
    let dest : list_any (entry_grants groups a.0 b.0 c.0 port) r.dests ≡ true =
    list_any_is (entry_grants groups a.0 b.0 c.0 port) r.dests entry at.1 (and_from (dest_covers groups entry.to a.0 b.0) (ports_hold entry.ports c.0 port) b.2 q.1) in
    let rule : rule_grants groups a.0 b.0 c.0 port r ≡ true =
    and_from (has_member r.protos c.0 && some_source groups r a.0) (list_any (entry_grants groups a.0 b.0 c.0 port) r.dests)
    (and_from (has_member r.protos c.0) (some_source groups r a.0) q.0 e.0) dest in
    list_any_is (λ s. list_any (pair_passes groups rules proto port s) ds) ss a.0 a.1
    (list_any_is (pair_passes groups rules proto port a.0) ds b.0 b.1
    (list_any_is (λ p. some_rule_grants groups rules a.0 b.0 p port) (protos_of proto) c.0 c.1
    (list_any_is (rule_grants groups a.0 b.0 c.0 port) rules r found.1 rule)))

pub passes_by_rules : (groups : List Group) (rules : List Rule) (proto : Option ℕ) (port : ℕ) (ss ds : List End) → list_any (lets_some groups proto port ss ds) rules ≡ some_passes groups rules proto port ss ds
passes_by_rules groups rules proto port ss ds =
    same_tests (list_any (lets_some groups proto port ss ds) rules) (some_passes groups rules proto port ss ds)
    (lets_pair groups rules proto port ss ds) (pair_lets groups rules proto port ss ds)
