-- Steps that may fail, and the checks that they make.
use Rattle.std.proofs.Common.{◌≡◌, ◌+◌, ◌++◌, ℕ, Bool, true, false, List, [], ◌∷◌, Option, Some, None, Result, Ok, Err, is_some, cond, leb, option_map, refl, sym, ap, ◌∙◌}
use Rattle.std.specs.Option.{option_or}
use Rattle.serde_json.specs.Data.{Data, Items, no_items, item, Members, no_members, member}
use Rattle.serde_json.specs.Find.{as_array, as_object, as_str}
use Rattle.tail_base.specs.Steps.{◌>>=◌, or_fault, refuse_unless}
use Rattle.policy_rows.specs.declared.code.PolicyCode.{PolicyCode}
use Rattle.policy_rows.specs.declared.code.PolicyCode.TheVariants as code
use Rattle.policy_rows.specs.declared.fault.PolicyFault.{PolicyFault}
use Rattle.policy_rows.specs.Faults.{fault_at, indexed, under}
use Rattle.policy_doc.specs.declared.limits.TheConstants.{LIST_LIMIT}
use Rattle.policy_laws.specs.Checks.{Check, due_checks, each_checks, failing, fault_in, first_failing, more_read, key_checks, list_checks, member_checks, must, object_checks, object_due, of_read, of_some, read_or, readable, text_checks}
use Rattle.policy_doc.specs.Keys.{is_one_of, keys_of, newer}
use Rattle.policy_doc.specs.Rules.{list_due}
use Rattle.policy_doc.specs.Walks.{each, each_member, items_count, list_of, members_count, object_at, object_of, or_empty, text_at}
use Rattle.std.specs.Prelude.{◌&&◌, not}

-- the fault of what is read is that of the first check that fails
pub record IsChecked {A : Type 0} (r : Result A PolicyFault) (cs : List Check) : Type 0 where
  pub is : fault_in r ≡ first_failing cs

-- each fault of what is read stands at the place
abbrev pub IsAt : {A : Type 0} → List ℕ → Result A PolicyFault → Type 0
IsAt place (Ok x) = Unit {0}
IsAt place (Err fault) = fault.place ≡ place

failing_or : (place : List ℕ) (wrong : Option PolicyCode) (x y : Option PolicyFault) → failing place wrong (option_or x y) ≡ option_or (failing place wrong x) y
failing_or place None x y = refl
failing_or place (Some code) x y = refl

first_of_both : (cs ds : List Check) → first_failing (cs ++ ds) ≡ option_or (first_failing cs) (first_failing ds)
first_of_both [] ds = refl
first_of_both (c ∷ cs) ds = ap (failing c.place c.wrong) (first_of_both cs ds) ∙ failing_or c.place c.wrong (first_failing cs) (first_failing ds)

-- one step, and then another
pub bind_checked : {A B : Type 0} (r : Result A PolicyFault) (k : A → Result B PolicyFault) (cs ds : List Check) → IsChecked r cs
    → ((x : A) → r ≡ Ok x → IsChecked (k x) ds) → IsChecked (r >>= k) (cs ++ ds)
bind_checked (Ok x) k cs ds h next =
    record { is = (next x refl).is ∙ ap (λ o. option_or o (first_failing ds)) h.is ∙ sym (first_of_both cs ds) }
bind_checked (Err fault) k cs ds h next =
    record { is = ap (λ o. option_or o (first_failing ds)) h.is ∙ sym (first_of_both cs ds) }

-- nothing is left to check
pub last_checked : {A B : Type 0} (r : Result A PolicyFault) (k : A → B) (cs : List Check) → IsChecked r cs → IsChecked (r >>= (λ x. Ok (k x))) cs
last_checked (Ok x) k cs h = record { is = h.is }
last_checked (Err fault) k cs h = record { is = h.is }

pub ok_checked : {A : Type 0} (x : A) → IsChecked (Ok x) []
ok_checked x = record { is = refl }

pub must_checked : (passes : Bool) (code : PolicyCode) (place : List ℕ) → IsChecked (refuse_unless passes (fault_at code place)) (must passes code place ∷ [])
must_checked true code place = record { is = refl }
must_checked false code place = record { is = refl }

pub due_checked : {A : Type 0} (o : Option A) (code : PolicyCode) (place : List ℕ) → IsChecked (or_fault (fault_at code place) o) (must (is_some o) code place ∷ [])
due_checked None code place = record { is = refl }
due_checked (Some x) code place = record { is = refl }

pub must_then : {B : Type 0} (passes : Bool) (code : PolicyCode) (place : List ℕ) (k : Unit {0} → Result B PolicyFault) (ds : List Check)
    → IsChecked (k tt) ds → IsChecked (refuse_unless passes (fault_at code place) >>= k) (must passes code place ∷ ds)
must_then true code place k ds h = record { is = h.is }
must_then false code place k ds h = record { is = refl }

pub due_then : {A B : Type 0} (o : Option A) (code : PolicyCode) (place : List ℕ) (k : A → Result B PolicyFault) (f : A → List Check)
    → ((x : A) → IsChecked (k x) (f x)) → IsChecked (or_fault (fault_at code place) o >>= k) (must (is_some o) code place ∷ of_some o f)
due_then None code place k f h = record { is = refl }
due_then (Some x) code place k f h = record { is = (h x).is }

pub due_both : {A B : Type 0} (o : Option A) (code : PolicyCode) (place : List ℕ) (k : A → Result B PolicyFault) (f : A → List Check) (ds : List Check)
    → ((x : A) → IsChecked (k x) (f x ++ ds)) → IsChecked (or_fault (fault_at code place) o >>= k) (must (is_some o) code place ∷ (of_some o f ++ ds))
due_both None code place k f ds h = record { is = refl }
due_both (Some x) code place k f ds h = record { is = (h x).is }

pub read_checked : {A : Type 0} (place : List ℕ) (r : Result A PolicyFault) → IsAt place r → IsChecked r (readable place r ∷ [])
read_checked place (Ok x) at = record { is = refl }
read_checked place (Err fault) at = record { is = ap (λ p. Some (fault_at fault.code p)) at }

pub read_then : {A B : Type 0} (place : List ℕ) (r : Result A PolicyFault) (k : A → Result B PolicyFault) (f : A → List Check) → IsAt place r
    → ((x : A) → IsChecked (k x) (f x)) → IsChecked (r >>= k) (readable place r ∷ of_read r f)
read_then place (Ok x) k f at h = record { is = (h x).is }
read_then place (Err fault) k f at h = record { is = ap (λ p. Some (fault_at fault.code p)) at }

-- ---- places

pub at_if : {A : Type 0} (place : List ℕ) (b : Bool) (x y : Result A PolicyFault) → IsAt place x → IsAt place y → IsAt place (cond b x y)
at_if place true x y h k = h
at_if place false x y h k = k

pub at_due : {A : Type 0} (place : List ℕ) (code : PolicyCode) (o : Option A) → IsAt place (or_fault (fault_at code place) o)
at_due place code None = refl
at_due place code (Some x) = tt

pub at_must : (place : List ℕ) (code : PolicyCode) (passes : Bool) → IsAt place (refuse_unless passes (fault_at code place))
at_must place code true = tt
at_must place code false = refl

pub at_bind : {A B : Type 0} (place : List ℕ) (r : Result A PolicyFault) (k : A → Result B PolicyFault) → IsAt place r → ((x : A) → IsAt place (k x)) → IsAt place (r >>= k)
at_bind place (Ok x) k h next = next x
at_bind place (Err fault) k h next = h

-- ---- lists and objects

pub some_checked : {A : Type 0} (read : Data → Result (List A) PolicyFault) (checks : Data → List Check) → ((d : Data) → IsChecked (read d) (checks d))
    → (o : Option Data) → IsChecked (or_empty read o) (of_some o checks)
some_checked read checks h None = record { is = refl }
some_checked read checks h (Some d) = h d

pub text_then : {A : Type 0} (place : List ℕ) (d : Data) (k : List ℕ → Result A PolicyFault) (checks : List ℕ → List Check) → ((text : List ℕ) → IsChecked (k text) (checks text))
    → IsChecked (text_at place d >>= k) (text_checks checks place d)
text_then place d k checks h = due_then (as_str d) code.WrongShape place k checks h

pub object_then : {A : Type 0} (place : List ℕ) (d : Data) (k : Members → Result A PolicyFault) (checks : Members → List Check) → ((ms : Members) → IsChecked (k ms) (checks ms))
    → IsChecked (object_at place d >>= k) (object_due checks place d)
object_then place d k checks h = due_then (as_object d) code.WrongShape place k checks h

pub each_checked : {A : Type 0} (read : List ℕ → Data → Result A PolicyFault) (checks : List ℕ → Data → List Check) → ((place : List ℕ) (d : Data) → IsChecked (read place d) (checks place d))
    → (place : List ℕ) (n : ℕ) (ds : Items) → IsChecked (each read place n ds) (each_checks checks place n ds)
each_checked read checks h place n no_items = record { is = refl }
each_checked read checks h place n (item d ds) =
    bind_checked (read (indexed place n) d) (λ x. each read place (n + 1) ds >>= (λ xs. Ok (x ∷ xs))) (checks (indexed place n) d) (each_checks checks place (n + 1) ds)
    (h (indexed place n) d)
    (λ x _. last_checked (each read place (n + 1) ds) (λ xs. x ∷ xs) (each_checks checks place (n + 1) ds) (each_checked read checks h place (n + 1) ds))

pub list_checked : {A : Type 0} (most : ℕ) (read : List ℕ → Data → Result A PolicyFault) (checks : List ℕ → Data → List Check)
    → ((place : List ℕ) (d : Data) → IsChecked (read place d) (checks place d)) → (place : List ℕ) (d : Data) → IsChecked (list_of most read place d) (list_checks most checks place d)
unfolding list_of
list_checked most read checks h place d =
    due_then (as_array d) code.WrongShape place
    (λ ds. refuse_unless (leb (items_count ds) most) (fault_at code.TooMany place) >>= (λ _. each read place 0 ds))
    (λ ds. must (leb (items_count ds) most) code.TooMany place ∷ each_checks checks place 0 ds)
    (λ ds. must_then (leb (items_count ds) most) code.TooMany place (λ _. each read place 0 ds) (each_checks checks place 0 ds) (each_checked read checks h place 0 ds))

pub list_due_checked : {A : Type 0} (read : List ℕ → Data → Result A PolicyFault) (checks : List ℕ → Data → List Check)
    → ((place : List ℕ) (d : Data) → IsChecked (read place d) (checks place d)) → (place : List ℕ) (o : Option Data) → IsChecked (list_due read place o) (due_checks checks place o)
list_due_checked read checks h place None = record { is = refl }
list_due_checked read checks h place (Some d) = record { is = (list_checked LIST_LIMIT read checks h place d).is }

pub member_checked : {A : Type 0} (read : List A → List ℕ → List ℕ → Data → Result A PolicyFault) (checks : List A → List ℕ → List ℕ → Data → List Check)
    → ((before : List A) (key place : List ℕ) (d : Data) → IsChecked (read before key place d) (checks before key place d))
    → (place : List ℕ) (before : List A) (ms : Members) → IsChecked (each_member read place before ms) (member_checks read checks place before ms)
member_checked read checks h place before no_members = record { is = refl }
member_checked {A = A} read checks h place before (member key d ms) =
    by_read (read before key (under place key) d) (h before key (under place key) d) (λ more. member_checked read checks h place more ms)
  where
    by_read : (r : Result A PolicyFault) → IsChecked r (checks before key (under place key) d)
        → ((more : List A) → IsChecked (each_member read place more ms) (member_checks read checks place more ms))
        → IsChecked (r >>= (λ x. each_member read place (before ++ x ∷ []) ms)) (checks before key (under place key) d ++ member_checks read checks place (more_read before r) ms)
    by_read (Ok x) here next =
        bind_checked (Ok x) (λ y. each_member read place (before ++ y ∷ []) ms) (checks before key (under place key) d)
        (member_checks read checks place (before ++ x ∷ []) ms) here (λ y same. (let is : x ≡ y = ap (read_or x) same in rw (← is) (next (before ++ x ∷ []))))
    by_read (Err fault) here next =
        bind_checked (Err fault) (λ y. each_member read place (before ++ y ∷ []) ms) (checks before key (under place key) d)
        (member_checks read checks place before ms) here (λ y same. absurd (cc))

pub object_checked : {A : Type 0} (most : ℕ) (read : List A → List ℕ → List ℕ → Data → Result A PolicyFault) (checks : List A → List ℕ → List ℕ → Data → List Check)
    → ((before : List A) (key place : List ℕ) (d : Data) → IsChecked (read before key place d) (checks before key place d))
    → (place : List ℕ) (d : Data) → IsChecked (object_of most read place d) (object_checks most read checks place d)
unfolding object_of
object_checked most read checks h place d =
    object_then place d
    (λ ms. refuse_unless (leb (members_count ms) most) (fault_at code.TooMany place) >>= (λ _. each_member read place [] ms))
    (λ ms. must (leb (members_count ms) most) code.TooMany place ∷ member_checks read checks place [] ms)
    (λ ms. must_then (leb (members_count ms) most) code.TooMany place (λ _. each_member read place [] ms) (member_checks read checks place [] ms) (member_checked read checks h place [] ms))

pub keys_checked : (place : List ℕ) (known unsupported seen : List (List ℕ)) (ms : Members) → IsChecked (keys_of place known unsupported seen ms) (key_checks place known unsupported seen ms)
keys_checked place known unsupported seen no_members = record { is = refl }
keys_checked place known unsupported seen (member key d ms) =
    must_then (not (is_one_of key unsupported)) code.Unsupported (under place key)
    (λ _. refuse_unless (is_one_of key known && not (is_one_of (newer key) seen)) (fault_at code.UnknownKey (under place key)) >>= (λ _. keys_of place known unsupported (seen ++ newer key ∷ []) ms))
    (must (is_one_of key known && not (is_one_of (newer key) seen)) code.UnknownKey (under place key) ∷ key_checks place known unsupported (seen ++ newer key ∷ []) ms)
    (must_then (is_one_of key known && not (is_one_of (newer key) seen)) code.UnknownKey (under place key)
    (λ _. keys_of place known unsupported (seen ++ newer key ∷ []) ms)
    (key_checks place known unsupported (seen ++ newer key ∷ []) ms)
    (keys_checked place known unsupported (seen ++ newer key ∷ []) ms))
