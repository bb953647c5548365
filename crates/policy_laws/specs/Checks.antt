-- The checks of a policy's text, as a list, and how lists and objects are checked. What a check asks is read
-- off the text: where the value that it is about isn't there, it isn't in the list.
use Rattle.std.specs.Prelude.{ℕ, ◌+◌, ◌++◌, ◌&&◌, Bool, not, List, [], ◌∷◌, Option, Some, None, Result, Ok, Err, is_none, is_some, nat_le, if◌then◌else◌}
use Rattle.serde_json.specs.Data.{Data, Items, no_items, item, Members, no_members, member}
use Rattle.serde_json.specs.Find.{as_array, as_object, as_str}
use Rattle.policy_rows.specs.declared.code.PolicyCode.{PolicyCode}
use Rattle.policy_rows.specs.declared.code.PolicyCode.TheVariants as code
use Rattle.policy_rows.specs.declared.fault.PolicyFault.{PolicyFault}
use Rattle.policy_rows.specs.Faults.{fault_at, indexed, under}
use Rattle.policy_doc.specs.Keys.{is_one_of, newer}
use Rattle.policy_doc.specs.Walks.{items_count, members_count}
use Rattle.policy_doc.specs.declared.limits.TheConstants.{LIST_LIMIT}

-- a check: its place, and what is wrong there, if anything is
pub record Check : Type 0 where
  pub place : List ℕ
  pub wrong : Option PolicyCode

-- nothing is wrong
abbrev pub is_met : Check → Bool
is_met c = is_none c.wrong

-- the fault of a check that fails, or else that of the rest
abbrev pub failing : List ℕ → Option PolicyCode → Option PolicyFault → Option PolicyFault
failing place None rest = rest
failing place (Some code) rest = Some (fault_at code place)

-- the fault of the first check that fails
abbrev pub first_failing : List Check → Option PolicyFault
first_failing [] = None
first_failing (c ∷ cs) = failing c.place c.wrong (first_failing cs)

-- the fault of what is read, if it has one
abbrev pub fault_in : {A : Type 0} → Result A PolicyFault → Option PolicyFault
fault_in (Ok x) = None
fault_in (Err fault) = Some fault

-- the check that a test passes
abbrev pub must : Bool → PolicyCode → List ℕ → Check
must passes code place = record { place = place; wrong = if passes then None else Some code }

-- the code of what is wrong with what is read
abbrev pub wrong_in : {A : Type 0} → Result A PolicyFault → Option PolicyCode
wrong_in (Ok x) = None
wrong_in (Err fault) = Some fault.code

-- the check that something is read at a place
abbrev pub readable : {A : Type 0} → List ℕ → Result A PolicyFault → Check
readable place r = record { place = place; wrong = wrong_in r }

-- the checks of what is there
abbrev pub of_some : {A : Type 0} → Option A → (A → List Check) → List Check
of_some None checks = []
of_some (Some x) checks = checks x

-- the checks of what is read
abbrev pub of_read : {A : Type 0} → Result A PolicyFault → (A → List Check) → List Check
of_read (Ok x) checks = checks x
of_read (Err fault) checks = []

-- what is read, or another value where nothing is
abbrev pub read_or : {A : Type 0} → A → Result A PolicyFault → A
read_or other (Ok x) = x
read_or other (Err fault) = other

-- a text is due
abbrev pub text_checks : (List ℕ → List Check) → List ℕ → Data → List Check
text_checks checks place d = must (is_some (as_str d)) code.WrongShape place ∷ of_some (as_str d) checks

-- an object is due
abbrev pub object_due : (Members → List Check) → List ℕ → Data → List Check
object_due checks place d = must (is_some (as_object d)) code.WrongShape place ∷ of_some (as_object d) checks

-- the elements behind so many
abbrev pub each_checks : (List ℕ → Data → List Check) → List ℕ → ℕ → Items → List Check
each_checks checks place n no_items = []
each_checks checks place n (item d ds) = checks (indexed place n) d ++ each_checks checks place (n + 1) ds

-- a list of at most so many elements: its shape, its length, its elements
abbrev pub list_checks : ℕ → (List ℕ → Data → List Check) → List ℕ → Data → List Check
list_checks most checks place d =
    must (is_some (as_array d)) code.WrongShape place
    ∷ of_some (as_array d) (λ ds. must (nat_le (items_count ds) most) code.TooMany place ∷ each_checks checks place 0 ds)

-- a list that has to be there
abbrev pub due_checks : (List ℕ → Data → List Check) → List ℕ → Option Data → List Check
due_checks checks place o = must (is_some o) code.WrongShape place ∷ of_some o (list_checks LIST_LIMIT checks place)

-- the members that were read, with one more if it is read
abbrev pub more_read : {A : Type 0} → List A → Result A PolicyFault → List A
more_read before (Ok x) = before ++ x ∷ []
more_read before (Err fault) = before

-- the members behind those that were read
abbrev pub member_checks : {A : Type 0} → (List A → List ℕ → List ℕ → Data → Result A PolicyFault) → (List A → List ℕ → List ℕ → Data → List Check) → List ℕ → List A → Members → List Check
member_checks read checks place before no_members = []
member_checks read checks place before (member key d ms) =
    checks before key (under place key) d ++ member_checks read checks place (more_read before (read before key (under place key) d)) ms

-- an object of at most so many members: its shape, its length, its members
abbrev pub object_checks : {A : Type 0} → ℕ → (List A → List ℕ → List ℕ → Data → Result A PolicyFault) → (List A → List ℕ → List ℕ → Data → List Check) → List ℕ → Data → List Check
object_checks most read checks place d =
    object_due (λ ms. must (nat_le (members_count ms) most) code.TooMany place ∷ member_checks read checks place [] ms) place d

-- each key is supported, is known, and is none that stands before
abbrev pub key_checks : List ℕ → (known unsupported seen : List (List ℕ)) → Members → List Check
key_checks place known unsupported seen no_members = []
key_checks place known unsupported seen (member key d ms) =
    must (not (is_one_of key unsupported)) code.Unsupported (under place key)
    ∷ must (is_one_of key known && not (is_one_of (newer key) seen)) code.UnknownKey (under place key)
    ∷ key_checks place known unsupported (seen ++ newer key ∷ []) ms
