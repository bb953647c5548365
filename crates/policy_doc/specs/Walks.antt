-- Lists and objects are walked from the front, and the first fault counts. Each is asked for its shape,
-- then for its length, then for what it holds.
use Rattle.std.specs.Prelude.{ℕ, ◌+◌, ◌++◌, List, [], ◌∷◌, nat_le, Option, Some, None, Result, Ok}
use Rattle.serde_json.specs.Data.{Data, Items, no_items, item, Members, no_members, member}
use Rattle.serde_json.specs.Find.{as_array, as_object, as_str}
use Rattle.tail_base.specs.Steps.{◌>>=◌, or_fault, refuse_unless}
use Rattle.policy_rows.specs.declared.code.PolicyCode.TheVariants as code
use Rattle.policy_rows.specs.declared.fault.PolicyFault.{PolicyFault}
use Rattle.policy_rows.specs.Faults.{fault_at, indexed, under}

-- a text is due
abbrev pub text_at : List ℕ → Data → Result (List ℕ) PolicyFault
text_at place d = or_fault (fault_at code.WrongShape place) (as_str d)

-- an object is due
abbrev pub object_at : List ℕ → Data → Result Members PolicyFault
object_at place d = or_fault (fault_at code.WrongShape place) (as_object d)

-- what each element is read as, behind so many
abbrev pub each : {A : Type 0} → (List ℕ → Data → Result A PolicyFault) → List ℕ → ℕ → Items → Result (List A) PolicyFault
each read place n no_items = Ok []
each read place n (item d ds) = do
  x ← read (indexed place n) d
  xs ← each read place (n + 1) ds
  Ok (x ∷ xs)

-- what each member is read as, by its key and behind those before it; members stand in byte order of
-- their keys
abbrev pub each_member : {A : Type 0} → (List A → List ℕ → List ℕ → Data → Result A PolicyFault) → List ℕ → List A → Members → Result (List A) PolicyFault
each_member read place before no_members = Ok before
each_member read place before (member key d ms) = do
  x ← read before key (under place key) d
  each_member read place (before ++ x ∷ []) ms

-- how many elements there are
abbrev pub items_count : Items → ℕ
items_count no_items = 0
items_count (item d ds) = items_count ds + 1

-- how many members there are
abbrev pub members_count : Members → ℕ
members_count no_members = 0
members_count (member key d ms) = members_count ms + 1

-- a list of at most so many elements
unfoldable pub list_of : {A : Type 0} → ℕ → (List ℕ → Data → Result A PolicyFault) → List ℕ → Data → Result (List A) PolicyFault
list_of most read place d = do
  ds ← or_fault (fault_at code.WrongShape place) (as_array d)
  _ ← refuse_unless (nat_le (items_count ds) most) (fault_at code.TooMany place)
  each read place 0 ds

-- an object of at most so many members
unfoldable pub object_of : {A : Type 0} → ℕ → (List A → List ℕ → List ℕ → Data → Result A PolicyFault) → List ℕ → Data → Result (List A) PolicyFault
object_of most read place d = do
  ms ← object_at place d
  _ ← refuse_unless (nat_le (members_count ms) most) (fault_at code.TooMany place)
  each_member read place [] ms

-- what is missing is empty
abbrev pub or_empty : {A : Type 0} → (Data → Result (List A) PolicyFault) → Option Data → Result (List A) PolicyFault
or_empty read None = Ok []
or_empty read (Some d) = read d

-- what is missing is none
abbrev pub optional : {A : Type 0} → (Data → Result A PolicyFault) → Option Data → Result (Option A) PolicyFault
optional read None = Ok None
optional read (Some d) = read d >>= λ x. Ok (Some x)
