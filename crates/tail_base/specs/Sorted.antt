-- Lists in ascending order, each element once.
use Rattle.std.specs.Prelude.{List, [], ◌∷◌, fold}
use Rattle.std.specs.declared.cmp.Ordering.{Ordering}
use Rattle.std.specs.Ordering.{match_ordering}

-- an element among elements that rise, where it belongs; once if it is there
abbrev pub with_element : {T : Type 0} → (T → T → Ordering) → List T → T → List T
with_element cmp [] x = x ∷ []
with_element cmp (y ∷ ys) x = match_ordering (cmp x y) (x ∷ y ∷ ys) (y ∷ ys) (y ∷ with_element cmp ys x)

-- the elements in ascending order, each once
abbrev pub sorted_once : {T : Type 0} → (T → T → Ordering) → List T → List T
sorted_once cmp xs = fold (with_element cmp) [] xs
