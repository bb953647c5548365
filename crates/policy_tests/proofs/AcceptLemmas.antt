-- An accept entry passes exactly where the ends without machines pass.
use Rattle.std.proofs.Common.{◌≡◌, ℕ, Bool, true, List, [], inl, inr, refl, sym, ap, subst, ◌∙◌}
use Rattle.std.specs.Prelude.{Some, Option}
use Rattle.std.specs.List.{list_all}
use Rattle.std.proofs.lemmas.Bool.{and_parts}
use Rattle.tail_base.proofs.Bools.{same_tests}
use Rattle.tail_base.proofs.Searches.{any_weaker}
use Rattle.net_rows.proofs.Members.{list_all_is, list_all_member}
use Rattle.policy_rows.specs.declared.dest.Dest.{Dest}
use Rattle.policy_rows.specs.declared.group.Group.{Group}
use Rattle.policy_rows.specs.declared.policy.Policy.{Policy}
use Rattle.policy_rows.specs.declared.rule.Rule.{Rule}
use Rattle.policy_rows.specs.declared.selector.Selector.{Selector}
use Rattle.policy_rows.specs.declared.test.Test.{Test}
use Rattle.policy_sites.specs.Grants.{rules_of, some_rule_grants}
use Rattle.policy_sites.specs.declared.end.End.{End}
use Rattle.policy_sites.specs.declared.site.Site.{Site}
use Rattle.policy_tests.specs.Lasting.{StandsFor, is_lasting, lasts}
use Rattle.policy_tests.specs.TestEnds.{ends_of}
use Rattle.policy_tests.specs.Tests.{is_accepted, port_of, protos_of}
use Rattle.policy_tests.specs.Trials.{accepted_by, all_pass, core_of, pair_passes}
use Rattle.policy_tests.proofs.CoreLemmas.{IsBacked, core_backs, core_inside}
use Rattle.policy_tests.proofs.PhantomLemmas.{dest_stands, source_stands}

pair_from : (groups : List Group) (rules : List Rule) (proto : Option ℕ) (port : ℕ) (p s d : End) → StandsFor p s → pair_passes groups rules proto port p d ≡ true → pair_passes groups rules proto port s d ≡ true
pair_from groups rules proto port p s d stands h =
    any_weaker (λ x. some_rule_grants groups rules p d x port) (λ x. some_rule_grants groups rules s d x port) (protos_of proto) (λ x g. source_stands groups rules p s d x port stands g) h

pair_to : (groups : List Group) (rules : List Rule) (proto : Option ℕ) (port : ℕ) (s p d : End) → StandsFor p d → pair_passes groups rules proto port s p ≡ true → pair_passes groups rules proto port s d ≡ true
pair_to groups rules proto port s p d stands h =
    any_weaker (λ x. some_rule_grants groups rules s p x port) (λ x. some_rule_grants groups rules s d x port) (protos_of proto) (λ x g. dest_stands groups rules s p d x port stands g) h

-- a pair passes where those pass that are or stand for its ends
pair_backed : (groups : List Group) (rules : List Rule) (proto : Option ℕ) (port : ℕ) (s d : End) (cs cd : List End) → IsBacked cs s → IsBacked cd d → all_pass groups rules proto port cs cd ≡ true
    → pair_passes groups rules proto port s d ≡ true
pair_backed groups rules proto port s d cs cd left right h =
    let row = list_all_member (λ x. list_all (pair_passes groups rules proto port x) cd) cs h left.0 left.1 in
    let at = list_all_member (pair_passes groups rules proto port left.0) cd row right.0 right.1 in
    let to : pair_passes groups rules proto port left.0 d ≡ true = elim right.2 [
      | inl same ↦ subst (λ (x : End). pair_passes groups rules proto port left.0 x ≡ true) same at
      | inr stands ↦ pair_to groups rules proto port left.0 right.0 d stands at
    ] in
    elim left.2 [
      | inl same ↦ subst (λ (x : End). pair_passes groups rules proto port x d ≡ true) same to
      | inr stands ↦ pair_from groups rules proto port left.0 s d stands to
    ]

-- the entry passes where it passes without the machines
all_from : (groups : List Group) (rules : List Rule) (sites : List Site) (proto : Option ℕ) (port : ℕ) (a b : Selector) → all_pass groups rules proto port (core_of groups sites a) (core_of groups sites b) ≡ true
    → all_pass groups rules proto port (ends_of groups sites a) (ends_of groups sites b) ≡ true
all_from groups rules sites proto port a b h =
    list_all_is (λ s. list_all (pair_passes groups rules proto port s) (ends_of groups sites b)) (ends_of groups sites a) (λ s ms.
    list_all_is (pair_passes groups rules proto port s) (ends_of groups sites b) (λ d md.
    pair_backed groups rules proto port s d (core_of groups sites a) (core_of groups sites b) (core_backs groups sites a s ms) (core_backs groups sites b d md) h))

all_to : (groups : List Group) (rules : List Rule) (sites : List Site) (proto : Option ℕ) (port : ℕ) (a b : Selector) → all_pass groups rules proto port (ends_of groups sites a) (ends_of groups sites b) ≡ true
    → all_pass groups rules proto port (core_of groups sites a) (core_of groups sites b) ≡ true
all_to groups rules sites proto port a b h =
    list_all_is (λ s. list_all (pair_passes groups rules proto port s) (core_of groups sites b)) (core_of groups sites a) (λ s ms.
    let row = list_all_member (λ x. list_all (pair_passes groups rules proto port x) (ends_of groups sites b)) (ends_of groups sites a) h s (core_inside groups sites a s ms) in
    list_all_is (pair_passes groups rules proto port s) (core_of groups sites b) (λ d md.
    list_all_member (pair_passes groups rules proto port s) (ends_of groups sites b) row d (core_inside groups sites b d md)))

pub accepts_by_core : (groups : List Group) (rules : List Rule) (sites : List Site) (t : Test) (e : Dest)
    → all_pass groups rules t.proto (port_of e) (core_of groups sites t.subject) (core_of groups sites e.to) ≡ accepted_by groups rules sites t e
accepts_by_core groups rules sites t e =
    same_tests (all_pass groups rules t.proto (port_of e) (core_of groups sites t.subject) (core_of groups sites e.to)) (accepted_by groups rules sites t e)
    (all_from groups rules sites t.proto (port_of e) t.subject e.to) (all_to groups rules sites t.proto (port_of e) t.subject e.to)

-- the same of what the code has at hand
pub accepted_is : (groups : List Group) (rules : List Rule) (sites : List Site) (t : Test) (e : Dest) (port : ℕ) (ss ds : List End) (passes : Bool) → passes ≡ all_pass groups rules t.proto port ss ds
    → port ≡ port_of e → ss ≡ core_of groups sites t.subject → ds ≡ core_of groups sites e.to → passes ≡ accepted_by groups rules sites t e
accepted_is groups rules sites t e port ss ds passes value ports sources dests =
    let moved : all_pass groups rules t.proto port ss ds ≡ all_pass groups rules t.proto (port_of e) (core_of groups sites t.subject) (core_of groups sites e.to) =
    λ i. all_pass groups rules t.proto (ports i) (sources i) (dests i) in
    value ∙ (moved ∙ accepts_by_core groups rules sites t e)

lasting_core : (groups : List Group) (sites : List Site) (selector : Selector) → is_lasting selector ≡ true → core_of groups sites selector ≡ ends_of groups [] selector
lasting_core groups sites selector h = rw h refl

-- Between users, groups and tags an entry passes over any machines as over none.
pub by_phantoms : (policy : Policy) (sites : List Site) (t : Test) (e : Dest) → lasts t e ≡ true → is_accepted policy sites t e ≡ is_accepted policy [] t e
by_phantoms policy sites t e h =
    let p = and_parts (is_lasting t.subject) (is_lasting e.to) h in
    let groups = policy.groups in
    let rules = rules_of (Some policy) in
    let left = lasting_core groups sites t.subject p.0 in
    let right = lasting_core groups sites e.to p.1 in
    let whole : all_pass groups rules t.proto (port_of e) (core_of groups sites t.subject) (core_of groups sites e.to) ≡ is_accepted policy sites t e = accepts_by_core groups rules sites t e in
    let first : all_pass groups rules t.proto (port_of e) (core_of groups sites t.subject) (core_of groups sites e.to) ≡ all_pass groups rules t.proto (port_of e) (ends_of groups [] t.subject) (core_of groups sites e.to) =
    ap (λ (xs : List End). all_pass groups rules t.proto (port_of e) xs (core_of groups sites e.to)) left in
    let second : all_pass groups rules t.proto (port_of e) (ends_of groups [] t.subject) (core_of groups sites e.to) ≡ is_accepted policy [] t e =
    ap (λ (xs : List End). all_pass groups rules t.proto (port_of e) (ends_of groups [] t.subject) xs) right in
    sym whole ∙ (first ∙ second)
