-- The first place of a list, and the first rule with the first of its destinations, are the least.
use Rattle.std.proofs.Common.{◌≡◌, ◌<◌, ◌+◌, ◌&&◌, ◌||◌, ℕ, zero, suc, Bool, true, false, List, [], ◌∷◌, arith, refl, sym, ap, subst, ◌∙◌, inl, inr}
use Rattle.std.specs.Prelude.{Option, Some, None, IfSome, slice_get}
use Rattle.std.specs.List.{list_any, position_from}
use Rattle.std.specs.Option.{is_some, option_map, option_map_or, option_or}
use Rattle.std.proofs.lemmas.Bool.{cases_Bool}
use Rattle.port_sets.specs.Protocols.{has_member}
use Rattle.policy_rows.specs.declared.dest.Dest.{Dest}
use Rattle.policy_rows.specs.declared.group.Group.{Group}
use Rattle.policy_rows.specs.declared.policy.Policy.{Policy}
use Rattle.policy_rows.specs.declared.rule.Rule.{Rule}
use Rattle.policy_sites.specs.Grants.{entry_grants, grants, groups_of, rule_grants, rules_of, some_source}
use Rattle.policy_sites.specs.declared.end.End.{End}
use Rattle.reach_report.specs.FirstGrant.{IsFirstGrant, entry_alone, first_entry, first_grant, first_of_rules, granted_alone}
use Rattle.reach_report.specs.declared.granted.Granted.{Granted}

-- ---- places

-- the element at that place passes
abbrev pub passes_at : {A : Type 0} → (A → Bool) → List A → ℕ → Bool
passes_at test xs n = option_map_or test (slice_get xs n) false

-- it passes, and none before it does
pub record IsFirstPlace {A : Type 0} (test : A → Bool) (xs : List A) (n : ℕ) : Type 0 where
  pub passes : passes_at test xs n ≡ true
  pub before : (m : ℕ) → m < n → passes_at test xs m ≡ false

-- where the first doesn't pass, what is before a place of the others is before the next place of all
pub before_more : {A : Type 0} (test : A → Bool) (x : A) (xs : List A) (n : ℕ) → test x ≡ false → ((m : ℕ) → m < n → passes_at test xs m ≡ false) → (m : ℕ) → m < suc n → passes_at test (x ∷ xs) m ≡ false
before_more test x xs n fails rest zero lt = fails
before_more test x xs n fails rest (suc m) lt = rest m (omega arith)

pub first_place : {A : Type 0} (test : A → Bool) (from at : ℕ) (xs : List A) → position_from test from xs ≡ Some at → (n : ℕ) × (at ≡ from + n) × IsFirstPlace test xs n
first_place test from at [] h = absurd (cc)
first_place {A} test from at (x ∷ xs) h =
    elim (cases_Bool (test x)) [
      | inl passes ↦
          let same : Some from ≡ Some at = rw passes at h in
          let e : from ≡ at = cc in
          (0, omega arith, record { passes = passes; before = λ m lt. absurd (omega arith) })
      | inr fails ↦
          let more = first_place test (from + 1) at xs (rw fails at h) in
          let e = more.1 in
          (suc more.0, omega arith, record { passes = more.2.passes; before = before_more test x xs more.0 fails more.2.before })
    ]

pub first_of_all : {A : Type 0} (test : A → Bool) (at : ℕ) (xs : List A) → position_from test 0 xs ≡ Some at → IsFirstPlace test xs at
first_of_all {A} test at xs h =
    let found = first_place test 0 at xs h in
    let told = found.1 in
    let e : found.0 ≡ at = omega arith in
    subst (λ (n : ℕ). IsFirstPlace test xs n) e found.2

-- where there is none, none passes
pub no_place : {A : Type 0} (test : A → Bool) (from : ℕ) (xs : List A) → position_from test from xs ≡ None → (n : ℕ) → passes_at test xs n ≡ false
no_place test from [] h n = refl
no_place {A} test from (x ∷ xs) h zero =
    elim (cases_Bool (test x)) [
      | inl passes ↦ let bad : Some from ≡ None = rw passes at h in absurd (cc)
      | inr fails ↦ fails
    ]
no_place {A} test from (x ∷ xs) h (suc n) =
    elim (cases_Bool (test x)) [
      | inl passes ↦ let bad : Some from ≡ None = rw passes at h in absurd (cc)
      | inr fails ↦ no_place test (from + 1) xs (rw fails at h) n
    ]

pub some_place : {A : Type 0} (test : A → Bool) (from : ℕ) (xs : List A) → is_some (position_from test from xs) ≡ list_any test xs
some_place test from [] = refl
some_place {A} test from (x ∷ xs) =
    elim (cases_Bool (test x)) [
      | inl passes ↦ rw passes refl
      | inr fails ↦ rw fails (some_place test (from + 1) xs)
    ]

-- ---- options

some_mapped : {A B : Type 0} (f : A → B) (o : Option A) → is_some (option_map f o) ≡ is_some o
some_mapped f None = refl
some_mapped f (Some x) = refl

some_either : {A : Type 0} (a b : Option A) → is_some (option_or a b) ≡ (is_some a || is_some b)
some_either None b = refl
some_either (Some x) b = refl

-- ---- rules

-- of the rule among these at the first place the destination at the other alone grants the flow
abbrev alone : List Group → End → End → ℕ → ℕ → List Rule → ℕ → ℕ → Bool
alone groups s d proto port rules n k = option_map_or (λ r. entry_alone groups s d proto port r k) (slice_get rules n) false

-- the grant is the first of these rules, of which the first has that number
record IsFirstFrom (groups : List Group) (s d : End) (proto port at : ℕ) (rules : List Rule) (g : Granted) : Type 0 where
  n : ℕ
  is : g.rule ≡ at + n
  grants : alone groups s d proto port rules n g.entry ≡ true
  before : (m k : ℕ) → m < n → alone groups s d proto port rules m k ≡ false
  entries : (k : ℕ) → k < g.entry → alone groups s d proto port rules n k ≡ false

module _ (groups : List Group) (s d : End) (proto port : ℕ) where
  entry_first : (r : Rule) (k : ℕ) → first_entry groups s d proto port r ≡ Some k
      → (entry_alone groups s d proto port r k ≡ true) × ((m : ℕ) → m < k → entry_alone groups s d proto port r m ≡ false)
  entry_first r k h =
      elim (cases_Bool (has_member r.protos proto && some_source groups r s)) [
        | inl may ↦
            let found = first_of_all (entry_grants groups s d proto port) k r.dests (rw may at h) in
            (rw may found.passes, λ m lt. rw may (found.before m lt))
        | inr not ↦ let bad : None ≡ Some k = rw not at h in absurd (cc)
      ]

  entry_none : (r : Rule) → first_entry groups s d proto port r ≡ None → (k : ℕ) → entry_alone groups s d proto port r k ≡ false
  entry_none r h k =
      elim (cases_Bool (has_member r.protos proto && some_source groups r s)) [
        | inl may ↦ rw may (no_place (entry_grants groups s d proto port) 0 r.dests (rw may at h) k)
        | inr not ↦ rw not refl
      ]

  entry_some : (r : Rule) → is_some (first_entry groups s d proto port r) ≡ rule_grants groups s d proto port r
  entry_some r =
      elim (cases_Bool (has_member r.protos proto && some_source groups r s)) [
        | inl may ↦ rw may (some_place (entry_grants groups s d proto port) 0 r.dests)
        | inr not ↦ rw not refl
      ]

  rules_before : (r : Rule) (rules : List Rule) (n : ℕ) → ((k : ℕ) → entry_alone groups s d proto port r k ≡ false)
      → ((m k : ℕ) → m < n → alone groups s d proto port rules m k ≡ false) → (m k : ℕ) → m < suc n → alone groups s d proto port (r ∷ rules) m k ≡ false
  rules_before r rules n fails rest zero k lt = fails k
  rules_before r rules n fails rest (suc m) k lt = rest m k (omega arith)

  -- one rule more, by what is known of those behind it
  rule_first : (at : ℕ) (r : Rule) (rules : List Rule) (g : Granted) → (first_of_rules groups s d proto port (at + 1) rules ≡ Some g → IsFirstFrom groups s d proto port (at + 1) rules g)
      → (o : Option ℕ) → first_entry groups s d proto port r ≡ o → first_of_rules groups s d proto port at (r ∷ rules) ≡ Some g → IsFirstFrom groups s d proto port at (r ∷ rules) g
  rule_first at r rules g rest None e h =
      let more = rest (rw e at h) in
      let told = more.is in
      record { n = suc more.n; is = omega arith; grants = more.grants; before = rules_before r rules more.n (entry_none r e) more.before; entries = more.entries }
  rule_first at r rules g rest (Some entry) e h =
      let same : Some (record { rule = at; entry = entry }) ≡ Some g = rw e at h in
      let is : record { rule = at; entry = entry } ≡ g = cc in
      let found = entry_first r entry e in
      subst (λ (z : Granted). IsFirstFrom groups s d proto port at (r ∷ rules) z) is
      (record { n = 0; is = omega arith; grants = found.0; before = λ m k lt. absurd (omega arith); entries = found.1 })

  rules_first : (at : ℕ) (rules : List Rule) (g : Granted) → first_of_rules groups s d proto port at rules ≡ Some g → IsFirstFrom groups s d proto port at rules g
  rules_first at [] g h = absurd (cc)
  rules_first at (r ∷ rules) g h = rule_first at r rules g (λ e. rules_first (at + 1) rules g e) (first_entry groups s d proto port r) refl h

  rules_some : (at : ℕ) (rules : List Rule) → is_some (first_of_rules groups s d proto port at rules) ≡ list_any (rule_grants groups s d proto port) rules
  rules_some at [] = refl
  rules_some at (r ∷ rules) =
      let o : Option ℕ = first_entry groups s d proto port r in
      let rest : Option Granted = first_of_rules groups s d proto port (at + 1) rules in
      some_either (option_map (λ entry. record { rule = at; entry = entry }) o) rest
      ∙ (ap (λ (b : Bool). b || is_some rest) (some_mapped (λ entry. record { rule = at; entry = entry }) o ∙ entry_some r)
      ∙ ap (λ (b : Bool). rule_grants groups s d proto port r || b) (rules_some (at + 1) rules))

-- ---- the policy

grant_first : (policy : Option Policy) (s d : End) (proto port : ℕ) (g : Granted) → first_grant policy s d proto port ≡ Some g → IsFirstGrant policy s d proto port g
grant_first policy s d proto port g h =
    let groups = groups_of policy in
    let rules = rules_of policy in
    let found = rules_first groups s d proto port 0 rules g h in
    let told = found.is in
    let e : found.n ≡ g.rule = omega arith in
    record {
      grants = subst (λ (n : ℕ). alone groups s d proto port rules n g.entry ≡ true) e found.grants;
      rules = λ rule entry lt. found.before rule entry (omega arith);
      entries = λ entry lt. subst (λ (n : ℕ). alone groups s d proto port rules n entry ≡ false) e (found.entries entry lt);
    }

pub least : (policy : Option Policy) (s d : End) (proto port : ℕ) → IfSome (first_grant policy s d proto port) (IsFirstGrant policy s d proto port)
least policy s d proto port = go (first_grant policy s d proto port) refl
  where
    go : (o : Option Granted) → first_grant policy s d proto port ≡ o → IfSome o (IsFirstGrant policy s d proto port)
    go None e = tt
    go (Some g) e = grant_first policy s d proto port g e

pub granted : (policy : Option Policy) (s d : End) (proto port : ℕ) → is_some (first_grant policy s d proto port) ≡ grants policy s d proto port
granted policy s d proto port = rules_some (groups_of policy) s d proto port 0 (rules_of policy)
