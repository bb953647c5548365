-- Lists and optional values are read back where their elements are.
use Rattle.std.proofs.Common.{◌≡◌, List, [], ◌∷◌, Option, Some, None, refl}
use Rattle.std.specs.Prelude.{IfSome, Result, Ok, map, option_map, option_and_then}
use Rattle.std.specs.List.{AllByRecursion}
use Rattle.serde_json.specs.Data.{Data}
use Rattle.serde_json.specs.View.{items_of}
use Rattle.wire_json.specs.Body.{unless_null}
use Rattle.wire_write.specs.Parts.{array_data, some_array}
use Rattle.response_read.specs.Members.{all_read, all_there, each_read, if_there}

-- what is read of the form of a value is the value
abbrev pub Back : {X E : Type 0} → (Data → Result X E) → (X → Data) → (X → Type 0) → Type 0
Back {X} {E} reads f P = (x : X) → P x → reads (f x) ≡ Ok x

each_back : {X : Type 0} (reads : Data → Result X _) (f : X → Data) (P : X → Type 0) → Back reads f P → (xs : List X) → AllByRecursion P xs → each_read reads (items_of (map f xs)) ≡ Ok xs
each_back reads f P back [] h = refl
each_back reads f P back (x ∷ xs) h = rw (back x h.0, each_back reads f P back xs h.1)

pub arrays_back : {X : Type 0} (reads : Data → Result X _) (f : X → Data) (P : X → Type 0) → Back reads f P → Back (all_read reads) (array_data f) (AllByRecursion P)
arrays_back reads f P back xs h = each_back reads f P back xs h

-- a value that may be absent, whose form isn't `null`
pub options_back : {X : Type 0} (reads : Data → Result X _) (f : X → Data) (P : X → Type 0) → Back reads f P → ((x : X) → unless_null (f x) ≡ Some (f x)) → (o : Option X) → IfSome o P → if_there reads (option_and_then unless_null (option_map f o)) ≡ Ok o
options_back reads f P back there None h = refl
options_back reads f P back there (Some x) h = rw (there x, back x h)

-- a list that is as absent where it is empty
pub lists_back : {X : Type 0} (reads : Data → Result X _) (f : X → Data) (P : X → Type 0) → Back reads f P → (xs : List X) → AllByRecursion P xs → all_there reads (option_and_then unless_null (some_array f xs)) ≡ Ok xs
lists_back reads f P back [] h = refl
lists_back reads f P back (x ∷ xs) h = arrays_back reads f P back (x ∷ xs) h
