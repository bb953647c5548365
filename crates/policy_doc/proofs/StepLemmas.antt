-- What steps that went well have shown.
use Rattle.std.proofs.Common.{◌≡◌, ◌+◌, ◌≤◌, ℕ, Bool, true, List, [], ◌∷◌, ◌++◌, length, Option, Some, None, Result, Ok, leb, arith, refl, ◌∙◌}
use Rattle.std.specs.List.{list_all}
use Rattle.std.proofs.lemmas.Bool.{and_from, leb-true}
use Rattle.std.proofs.lemmas.List.{length-append}
use Rattle.std.proofs.lemmas.List.Folds.{list_all-append}
use Rattle.serde_json.specs.Data.{Data, Items, no_items, item, Members, no_members, member}
use Rattle.serde_json.specs.Find.{as_array, as_object}
use Rattle.tail_base.proofs.StepLemmas.{bind_parts, check_parts, due_parts}
use Rattle.policy_rows.specs.declared.fault.PolicyFault.{PolicyFault}
use Rattle.policy_rows.specs.declared.code.PolicyCode.TheVariants as code
use Rattle.policy_rows.specs.Faults.{fault_at, indexed, under}
use Rattle.policy_doc.specs.Walks.{each, each_member, items_count, list_of, members_count, object_of, or_empty}

abbrev the_ok : {A : Type 0} → A → Result A PolicyFault
the_ok x = Ok x

-- the value that went well has what the only value has
pub ok_has : {A : Type 0} (P : A → Type 0) (x y : A) → P x → the_ok x ≡ Ok y → P y
ok_has P x y px h = let same : x ≡ y = cc in rw (← same) px

pub each_all : {A : Type 0} (P : A → Bool) (read : List ℕ → Data → Result A PolicyFault) → ((place : List ℕ) (d : Data) (x : A) → read place d ≡ Ok x → P x ≡ true)
    → (place : List ℕ) (n : ℕ) (ds : Items) (xs : List A) → each read place n ds ≡ Ok xs → list_all P xs ≡ true
each_all P read h place n no_items xs e = ok_has (λ ys. list_all P ys ≡ true) [] xs refl e
each_all P read h place n (item d ds) xs e =
    let first = bind_parts (read (indexed place n) d) _ xs e in
    let rest = bind_parts (each read place (n + 1) ds) _ xs first.2 in
    ok_has (λ ys. list_all P ys ≡ true) (first.0 ∷ rest.0) xs
    (and_from (P first.0) (list_all P rest.0) (h (indexed place n) d first.0 first.1) (each_all P read h place (n + 1) ds rest.0 rest.1)) rest.2

pub each_count : {A : Type 0} (read : List ℕ → Data → Result A PolicyFault) (place : List ℕ) (n : ℕ) (ds : Items) (xs : List A) → each read place n ds ≡ Ok xs → length xs ≡ items_count ds
each_count read place n no_items xs e = ok_has (λ ys. length ys ≡ 0) [] xs refl e
each_count read place n (item d ds) xs e =
    let first = bind_parts (read (indexed place n) d) _ xs e in
    let rest = bind_parts (each read place (n + 1) ds) _ xs first.2 in
    let more = each_count read place (n + 1) ds rest.0 rest.1 in
    ok_has (λ ys. length ys ≡ items_count ds + 1) (first.0 ∷ rest.0) xs (omega arith) rest.2

pub list_all_read : {A : Type 0} (P : A → Bool) (most : ℕ) (read : List ℕ → Data → Result A PolicyFault) → ((place : List ℕ) (d : Data) (x : A) → read place d ≡ Ok x → P x ≡ true)
    → (place : List ℕ) (d : Data) (xs : List A) → list_of most read place d ≡ Ok xs → list_all P xs ≡ true
unfolding list_of
list_all_read P most read h place d xs e =
    let shape = due_parts (fault_at code.WrongShape place) (as_array d) _ xs e in
    let short = check_parts (leb (items_count shape.0) most) (fault_at code.TooMany place) _ xs shape.2 in
    each_all P read h place 0 shape.0 xs short.1

pub list_short : {A : Type 0} (most : ℕ) (read : List ℕ → Data → Result A PolicyFault) (place : List ℕ) (d : Data) (xs : List A) → list_of most read place d ≡ Ok xs → length xs ≤ most
unfolding list_of
list_short most read place d xs e =
    let shape = due_parts (fault_at code.WrongShape place) (as_array d) _ xs e in
    let short = check_parts (leb (items_count shape.0) most) (fault_at code.TooMany place) _ xs shape.2 in
    let few = leb-true (items_count shape.0) most short.0 in
    let count = each_count read place 0 shape.0 xs short.1 in
    omega (arith, few, count)

-- what is missing is empty
pub given_all : {A : Type 0} (P : A → Bool) (read : Data → Result (List A) PolicyFault) → ((d : Data) (xs : List A) → read d ≡ Ok xs → list_all P xs ≡ true)
    → (o : Option Data) (xs : List A) → or_empty read o ≡ Ok xs → list_all P xs ≡ true
given_all P read h None xs e = ok_has (λ ys. list_all P ys ≡ true) [] xs refl e
given_all P read h (Some d) xs e = h d xs e

pub given_short : {A : Type 0} (most : ℕ) (read : Data → Result (List A) PolicyFault) → ((d : Data) (xs : List A) → read d ≡ Ok xs → length xs ≤ most)
    → (o : Option Data) (xs : List A) → or_empty read o ≡ Ok xs → length xs ≤ most
given_short most read h None xs e = ok_has (λ ys. length ys ≤ most) [] xs (omega arith) e
given_short most read h (Some d) xs e = h d xs e

-- one member more passes, too
member_more : {A : Type 0} (P : A → Bool) (before : List A) (x : A) → list_all P before ≡ true → P x ≡ true → list_all P (before ++ x ∷ []) ≡ true
member_more P before x h p = list_all-append P before (x ∷ []) ∙ and_from _ _ h (and_from (P x) true p refl)

pub member_all : {A : Type 0} (P : A → Bool) (read : List A → List ℕ → List ℕ → Data → Result A PolicyFault)
    → ((before : List A) (key place : List ℕ) (d : Data) (x : A) → read before key place d ≡ Ok x → P x ≡ true)
    → (place : List ℕ) (before : List A) (ms : Members) (xs : List A) → list_all P before ≡ true → each_member read place before ms ≡ Ok xs → list_all P xs ≡ true
member_all P read h place before no_members xs passed e = ok_has (λ ys. list_all P ys ≡ true) before xs passed e
member_all P read h place before (member key d ms) xs passed e =
    let first = bind_parts (read before key (under place key) d) _ xs e in
    member_all P read h place (before ++ first.0 ∷ []) ms xs (member_more P before first.0 passed (h before key (under place key) d first.0 first.1)) first.2

pub member_count : {A : Type 0} (read : List A → List ℕ → List ℕ → Data → Result A PolicyFault) (place : List ℕ) (before : List A) (ms : Members) (xs : List A)
    → each_member read place before ms ≡ Ok xs → length xs ≡ length before + members_count ms
member_count read place before no_members xs e = ok_has (λ ys. length ys ≡ length before + 0) before xs (omega arith) e
member_count read place before (member key d ms) xs e =
    let first = bind_parts (read before key (under place key) d) _ xs e in
    let more = member_count read place (before ++ first.0 ∷ []) ms xs first.2 in
    let longer = length-append before (first.0 ∷ []) in
    omega arith

pub object_all : {A : Type 0} (P : A → Bool) (most : ℕ) (read : List A → List ℕ → List ℕ → Data → Result A PolicyFault)
    → ((before : List A) (key place : List ℕ) (d : Data) (x : A) → read before key place d ≡ Ok x → P x ≡ true)
    → (place : List ℕ) (d : Data) (xs : List A) → object_of most read place d ≡ Ok xs → list_all P xs ≡ true
unfolding object_of
object_all P most read h place d xs e =
    let shape = due_parts (fault_at code.WrongShape place) (as_object d) _ xs e in
    let short = check_parts (leb (members_count shape.0) most) (fault_at code.TooMany place) _ xs shape.2 in
    member_all P read h place [] shape.0 xs refl short.1

pub object_short : {A : Type 0} (most : ℕ) (read : List A → List ℕ → List ℕ → Data → Result A PolicyFault) (place : List ℕ) (d : Data) (xs : List A) → object_of most read place d ≡ Ok xs → length xs ≤ most
unfolding object_of
object_short most read place d xs e =
    let shape = due_parts (fault_at code.WrongShape place) (as_object d) _ xs e in
    let short = check_parts (leb (members_count shape.0) most) (fault_at code.TooMany place) _ xs shape.2 in
    let few = leb-true (members_count shape.0) most short.0 in
    let count : length xs ≡ 0 + members_count shape.0 = member_count read place [] shape.0 xs short.1 in
    omega (arith, few, count)
