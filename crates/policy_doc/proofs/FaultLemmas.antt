-- The first fault of a list.
use Rattle.std.proofs.Common.{◌≡◌, ◌<◌, ◌≤◌, ◌+◌, ℕ, zero, suc, true, List, ◌∷◌, Some, Result, Ok, Err, leb, arith, refl, sym, ap, ◌∙◌}
use Rattle.std.proofs.lemmas.Bool.{le-leb}
use Rattle.serde_json.specs.Data.{Data, Items, no_items, item}
use Rattle.serde_json.specs.Find.{as_array}
use Rattle.tail_base.specs.Steps.{◌>>=◌, or_fault, refuse_unless}
use Rattle.policy_rows.specs.declared.code.PolicyCode.TheVariants as code
use Rattle.policy_rows.specs.declared.fault.PolicyFault.{PolicyFault}
use Rattle.policy_rows.specs.Faults.{fault_at, indexed}
use Rattle.policy_doc.specs.FirstFault.{IsFirstFault, element_at}
use Rattle.policy_doc.specs.Walks.{each, items_count, list_of}

-- the same of elements behind so many
record IsFirstBehind {A : Type 0} (read : List ℕ → Data → Result A PolicyFault) (place : List ℕ) (n : ℕ) (ds : Items) (fault : PolicyFault) : Type 0 where
  index : ℕ
  element : Data
  there : element_at ds index ≡ Some element
  faulty : read (indexed place (n + index)) element ≡ Err fault
  before : (i : ℕ) (d : Data) → i < index → element_at ds i ≡ Some d → (x : A) × (read (indexed place (n + i)) d ≡ Ok x)

fault_of_rest : {A : Type 0} (r : Result (List A) PolicyFault) (x : A) (fault : PolicyFault) → (r >>= (λ xs. Ok (x ∷ xs))) ≡ Err fault → r ≡ Err fault
fault_of_rest (Ok xs) x fault e = absurd (cc)
fault_of_rest (Err f) x fault e = cc

at_place : {A : Type 0} (read : List ℕ → Data → Result A PolicyFault) (place : List ℕ) (m n : ℕ) (d : Data) (r : Result A PolicyFault) → m ≡ n → read (indexed place m) d ≡ r → read (indexed place n) d ≡ r
at_place read place m n d r same e = ap (λ k. read (indexed place k) d) (sym same) ∙ e

-- an element that is read without a fault stands before
before_more : {A : Type 0} (read : List ℕ → Data → Result A PolicyFault) (place : List ℕ) (n k : ℕ) (d : Data) (ds : Items) (x : A) → read (indexed place n) d ≡ Ok x
    → ((i : ℕ) (y : Data) → i < k → element_at ds i ≡ Some y → (z : A) × (read (indexed place (n + 1 + i)) y ≡ Ok z))
    → (i : ℕ) (y : Data) → i < suc k → element_at (item d ds) i ≡ Some y → (z : A) × (read (indexed place (n + i)) y ≡ Ok z)
unfolding element_at
before_more read place n k d ds x is more zero y low there =
    let same : d ≡ y = cc in
    rw (← same) (x, at_place read place n (n + 0) d (Ok x) (omega arith) is)
before_more read place n k d ds x is more (suc i) y low there =
    let found = more i y (omega (arith, low)) there in
    (found.0, at_place read place (n + 1 + i) (n + suc i) y (Ok found.0) (omega arith) found.1)

behind_more : {A : Type 0} (read : List ℕ → Data → Result A PolicyFault) (place : List ℕ) (n : ℕ) (d : Data) (ds : Items) (fault : PolicyFault) (x : A) → read (indexed place n) d ≡ Ok x
    → IsFirstBehind read place (n + 1) ds fault → IsFirstBehind read place n (item d ds) fault
unfolding element_at
behind_more read place n d ds fault x is rest = record {
  index = suc rest.index;
  element = rest.element;
  there = rest.there;
  faulty = at_place read place (n + 1 + rest.index) (n + suc rest.index) rest.element (Err fault) (omega arith) rest.faulty;
  before = before_more read place n rest.index d ds x is rest.before;
}

behind_here : {A : Type 0} (read : List ℕ → Data → Result A PolicyFault) (place : List ℕ) (n : ℕ) (d : Data) (ds : Items) (fault : PolicyFault) → read (indexed place n) d ≡ Err fault → IsFirstBehind read place n (item d ds) fault
unfolding element_at
behind_here read place n d ds fault is = record {
  index = 0;
  element = d;
  there = refl;
  faulty = at_place read place n (n + 0) d (Err fault) (omega arith) is;
  before = λ i y low there. absurd (omega (arith, low));
}

first_behind : {A : Type 0} (read : List ℕ → Data → Result A PolicyFault) (place : List ℕ) (n : ℕ) (ds : Items) (fault : PolicyFault) → each read place n ds ≡ Err fault → IsFirstBehind read place n ds fault
first_behind read place n no_items fault e = absurd (cc)
first_behind {A = A} read place n (item d ds) fault e = by_read (λ f. first_behind read place (n + 1) ds fault f) (read (indexed place n) d) refl e
  where
    by_read : (each read place (n + 1) ds ≡ Err fault → IsFirstBehind read place (n + 1) ds fault) → (r : Result A PolicyFault) → read (indexed place n) d ≡ r
        → (r >>= (λ x. each read place (n + 1) ds >>= (λ xs. Ok (x ∷ xs)))) ≡ Err fault → IsFirstBehind read place n (item d ds) fault
    by_read more (Ok x) is f = behind_more read place n d ds fault x is (more (fault_of_rest (each read place (n + 1) ds) x fault f))
    by_read more (Err g) is f = behind_here read place n d ds fault (is ∙ cc)

first_of : {A : Type 0} (read : List ℕ → Data → Result A PolicyFault) (place : List ℕ) (ds : Items) (fault : PolicyFault) → IsFirstBehind read place 0 ds fault → IsFirstFault read place ds fault
first_of read place ds fault h = record {
  index = h.index;
  element = h.element;
  there = h.there;
  faulty = at_place read place (0 + h.index) h.index h.element (Err fault) (omega arith) h.faulty;
  before = λ i d low there. (let found = h.before i d low there in (found.0, at_place read place (0 + i) i d (Ok found.0) (omega arith) found.1));
}

pub list_faults : {A : Type 0} (most : ℕ) (read : List ℕ → Data → Result A PolicyFault) (place : List ℕ) (d : Data) (ds : Items) (fault : PolicyFault)
    → as_array d ≡ Some ds → items_count ds ≤ most → list_of most read place d ≡ Err fault → IsFirstFault read place ds fault
unfolding list_of
list_faults most read place d ds fault array short e =
    let shaped : (or_fault (fault_at code.WrongShape place) (Some ds) >>= (λ xs. refuse_unless (leb (items_count xs) most) (fault_at code.TooMany place) >>= (λ _. each read place 0 xs))) ≡ Err fault = ap (λ o. or_fault (fault_at code.WrongShape place) o >>= (λ xs. refuse_unless (leb (items_count xs) most) (fault_at code.TooMany place) >>= (λ _. each read place 0 xs))) (sym array) ∙ e in
    let few : (refuse_unless true (fault_at code.TooMany place) >>= (λ _. each read place 0 ds)) ≡ Err fault = ap (λ b. refuse_unless b (fault_at code.TooMany place) >>= (λ _. each read place 0 ds)) (sym (le-leb (items_count ds) most short)) ∙ shaped in
    first_of read place ds fault (first_behind read place 0 ds fault few)
