-- Members of objects and elements of lists, read in turn: what doesn't fit ends it.
use Rattle.std.specs.Prelude.{ℕ, List, [], ◌∷◌, Option, Some, None, Result, Ok}
use Rattle.serde_json.specs.Data.{Data, Items, no_items, item}
use Rattle.serde_json.specs.Find.{as_array}
use Rattle.tail_base.specs.Steps.{◌>>=◌, or_fault}
use Rattle.wire_json.specs.Body.{member_of}
use Rattle.response_read.specs.declared.misfit.Misfit.{Misfit}
use Rattle.response_read.specs.declared.misfit.Misfit.TheVariants.{NotResponse}

-- the value, if there is one
abbrev pub fitting : {A : Type 0} → Option A → Result A Misfit
fitting = or_fault NotResponse

-- a member that has to be there; `null` is as absent, and of members of one name the last counts
abbrev pub due : {A : Type 0} → List ℕ → (Data → Result A Misfit) → Data → Result A Misfit
due name reads d = fitting (member_of name d) >>= reads

-- a value that may be absent
abbrev pub if_there : {A : Type 0} → (Data → Result A Misfit) → Option Data → Result (Option A) Misfit
if_there reads None = Ok None
if_there reads (Some d) = reads d >>= (λ x. Ok (Some x))

-- a member that may be absent
abbrev pub if_given : {A : Type 0} → List ℕ → (Data → Result A Misfit) → Data → Result (Option A) Misfit
if_given name reads d = if_there reads (member_of name d)

-- what each element is read as, in their order
abbrev pub each_read : {A : Type 0} → (Data → Result A Misfit) → Items → Result (List A) Misfit
each_read reads no_items = Ok []
each_read reads (item d ds) = do
  x ← reads d
  xs ← each_read reads ds
  Ok (x ∷ xs)

-- what each element of a list is read as
abbrev pub all_read : {A : Type 0} → (Data → Result A Misfit) → Data → Result (List A) Misfit
all_read reads d = fitting (as_array d) >>= each_read reads

-- a list that may be absent: then it is empty
abbrev pub all_there : {A : Type 0} → (Data → Result A Misfit) → Option Data → Result (List A) Misfit
all_there reads None = Ok []
all_there reads (Some d) = all_read reads d

-- a member that is a list, empty where it is absent
abbrev pub all_given : {A : Type 0} → List ℕ → (Data → Result A Misfit) → Data → Result (List A) Misfit
all_given name reads d = all_there reads (member_of name d)
