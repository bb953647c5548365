-- The first faulty entry of `grants`.
use Rattle.std.proofs.Common.{◌≡◌, ◌+◌, ◌≤◌, ℕ, suc, List, Some, Result, Ok, Err, arith, refl, sym, ap, ◌∙◌, leb, true}
use Rattle.std.proofs.lemmas.Bool.{le-leb}
use Rattle.serde_json.specs.Data.{Data, Items, no_items, item}
use Rattle.serde_json.specs.Find.{as_array}
use Rattle.tail_base.specs.Steps.{◌>>=◌, or_fault, refuse_unless}
use Rattle.policy_rows.specs.declared.code.PolicyCode.TheVariants as code
use Rattle.policy_rows.specs.declared.fault.PolicyFault.{PolicyFault}
use Rattle.policy_rows.specs.declared.names.Names.{Names}
use Rattle.policy_rows.specs.declared.rule.Rule.{Rule}
use Rattle.policy_rows.specs.Faults.{fault_at, indexed}
use Rattle.policy_doc.specs.declared.limits.TheConstants.{ENTRY_LIMIT}
use Rattle.policy_doc.specs.FirstFault.{IsFirstFaultyGrant, element_at, elements_before}
use Rattle.policy_doc.specs.Grants.{grant_at, grants_at, grants_onto}
use Rattle.policy_doc.specs.Walks.{items_count}

-- the same of entries behind so many
record IsFaultyBehind (names : Names) (before : List Rule) (place : List ℕ) (n : ℕ) (ds : Items) (fault : PolicyFault) : Type 0 where
  index : ℕ
  entry : Data
  rules : List Rule
  there : element_at ds index ≡ Some entry
  behind : grants_onto names before place n (elements_before ds index) ≡ Ok rules
  faulty : grant_at names rules (indexed place (n + index)) entry ≡ Err fault

at_place : (names : Names) (rules : List Rule) (place : List ℕ) (m n : ℕ) (d : Data) (fault : PolicyFault) → m ≡ n → grant_at names rules (indexed place m) d ≡ Err fault → grant_at names rules (indexed place n) d ≡ Err fault
at_place names rules place m n d fault same e = ap (λ k. grant_at names rules (indexed place k) d) (sym same) ∙ e

-- an entry without a fault stands before
behind_more : (names : Names) (before rules : List Rule) (place : List ℕ) (n : ℕ) (d : Data) (ds : Items) (fault : PolicyFault)
    → grant_at names before (indexed place n) d ≡ Ok rules → IsFaultyBehind names rules place (n + 1) ds fault → IsFaultyBehind names before place n (item d ds) fault
unfolding element_at elements_before
behind_more names before rules place n d ds fault is rest = record {
  index = suc rest.index;
  entry = rest.entry;
  rules = rest.rules;
  there = rest.there;
  behind = ap (λ r. r >>= (λ found. grants_onto names found place (n + 1) (elements_before ds rest.index))) is ∙ rest.behind;
  faulty = at_place names rest.rules place (n + 1 + rest.index) (n + suc rest.index) rest.entry fault (omega arith) rest.faulty;
}

behind_here : (names : Names) (before : List Rule) (place : List ℕ) (n : ℕ) (d : Data) (ds : Items) (fault : PolicyFault)
    → grant_at names before (indexed place n) d ≡ Err fault → IsFaultyBehind names before place n (item d ds) fault
unfolding element_at elements_before
behind_here names before place n d ds fault is = record {
  index = 0;
  entry = d;
  rules = before;
  there = refl;
  behind = refl;
  faulty = at_place names before place n (n + 0) d fault (omega arith) is;
}

faulty_behind : (names : Names) (before : List Rule) (place : List ℕ) (n : ℕ) (ds : Items) (fault : PolicyFault) → grants_onto names before place n ds ≡ Err fault → IsFaultyBehind names before place n ds fault
faulty_behind names before place n no_items fault e = absurd (cc)
faulty_behind names before place n (item d ds) fault e = by_read (λ rules f. faulty_behind names rules place (n + 1) ds fault f) (grant_at names before (indexed place n) d) refl e
  where
    by_read : ((rules : List Rule) → grants_onto names rules place (n + 1) ds ≡ Err fault → IsFaultyBehind names rules place (n + 1) ds fault) → (r : Result (List Rule) PolicyFault) → grant_at names before (indexed place n) d ≡ r
        → (r >>= (λ rules. grants_onto names rules place (n + 1) ds)) ≡ Err fault → IsFaultyBehind names before place n (item d ds) fault
    by_read more (Ok rules) is f = behind_more names before rules place n d ds fault is (more rules f)
    by_read more (Err g) is f = behind_here names before place n d ds fault (is ∙ cc)

pub grant_faults : (names : Names) (before : List Rule) (place : List ℕ) (d : Data) (ds : Items) (fault : PolicyFault)
    → as_array d ≡ Some ds → items_count ds ≤ ENTRY_LIMIT → grants_at names before place d ≡ Err fault → IsFirstFaultyGrant names before place ds fault
unfolding grants_at
grant_faults names before place d ds fault array short e =
    let shaped : (or_fault (fault_at code.WrongShape place) (Some ds) >>= (λ xs. refuse_unless (leb (items_count xs) ENTRY_LIMIT) (fault_at code.TooMany place) >>= (λ _. grants_onto names before place 0 xs))) ≡ Err fault = ap (λ o. or_fault (fault_at code.WrongShape place) o >>= (λ xs. refuse_unless (leb (items_count xs) ENTRY_LIMIT) (fault_at code.TooMany place) >>= (λ _. grants_onto names before place 0 xs))) (sym array) ∙ e in
    let few : (refuse_unless true (fault_at code.TooMany place) >>= (λ _. grants_onto names before place 0 ds)) ≡ Err fault = ap (λ b. refuse_unless b (fault_at code.TooMany place) >>= (λ _. grants_onto names before place 0 ds)) (sym (le-leb (items_count ds) ENTRY_LIMIT short)) ∙ shaped in
    let found = faulty_behind names before place 0 ds fault few in
    record {
      index = found.index;
      entry = found.entry;
      rules = found.rules;
      there = found.there;
      behind = found.behind;
      faulty = at_place names found.rules place (0 + found.index) found.index found.entry fault (omega arith) found.faulty;
    }
