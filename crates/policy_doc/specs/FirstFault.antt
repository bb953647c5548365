-- The fault of a list is the first that an element of it has.
use Rattle.std.specs.Prelude.{◌≡◌, ◌<◌, ℕ, zero, suc, List, Option, Some, None, Result, Ok, Err}
use Rattle.serde_json.specs.Data.{Data, Items, no_items, item}
use Rattle.policy_rows.specs.declared.fault.PolicyFault.{PolicyFault}
use Rattle.policy_rows.specs.declared.names.Names.{Names}
use Rattle.policy_rows.specs.declared.rule.Rule.{Rule}
use Rattle.policy_rows.specs.Faults.{indexed}
use Rattle.policy_doc.specs.Grants.{grant_at, grants_onto}

-- the element at an index
unfoldable pub element_at : Items → ℕ → Option Data
element_at no_items n = None
element_at (item d ds) zero = Some d
element_at (item d ds) (suc n) = element_at ds n

-- the elements before an index
unfoldable pub elements_before : Items → ℕ → Items
elements_before no_items n = no_items
elements_before (item d ds) zero = no_items
elements_before (item d ds) (suc n) = item d (elements_before ds n)

-- an element has the fault, and each before it is read without one
pub record IsFirstFault {A : Type 0} (read : List ℕ → Data → Result A PolicyFault) (place : List ℕ) (ds : Items) (fault : PolicyFault) : Type 0 where
  pub index : ℕ
  pub element : Data
  pub there : element_at ds index ≡ Some element
  pub faulty : read (indexed place index) element ≡ Err fault
  pub before : (i : ℕ) (d : Data) → i < index → element_at ds i ≡ Some d → (x : A) × (read (indexed place i) d ≡ Ok x)

-- an entry of `grants` has the fault, read behind the rules of those before it, which have none
pub record IsFirstFaultyGrant (names : Names) (before : List Rule) (place : List ℕ) (ds : Items) (fault : PolicyFault) : Type 0 where
  pub index : ℕ
  pub entry : Data
  pub rules : List Rule
  pub there : element_at ds index ≡ Some entry
  pub behind : grants_onto names before place 0 (elements_before ds index) ≡ Ok rules
  pub faulty : grant_at names rules (indexed place index) entry ≡ Err fault
