-- Lists that are read element by element: those made so far stand before those that are left.
use Rattle.std.proofs.Common.{◌≡◌, List, [], ◌∷◌, ◌++◌, Option, Some, None, refl, sym, ap}
use Rattle.std.proofs.lemmas.List.{append_assoc, append-nil}
use Rattle.tail_words.specs.SettingsValues.{before}

-- the elements that were made, and then the others, if they all are there
abbrev pub onto : {A : Type 0} → List A → Option (List A) → Option (List A)
onto made None = None
onto made (Some more) = Some (made ++ more)

pub onto_start : {A : Type 0} (others : Option (List A)) → onto [] others ≡ others
onto_start None = refl
onto_start (Some more) = refl

pub onto_one : {A : Type 0} (made : List A) (a : A) (others : Option (List A)) → onto made (before (Some a) others) ≡ onto (made ++ a ∷ []) others
onto_one made a None = refl
onto_one made a (Some more) = ap Some (sym (append_assoc made (a ∷ []) more))

pub onto_end : {A : Type 0} (made : List A) → onto made (Some []) ≡ Some made
onto_end made = ap Some (append-nil made)
