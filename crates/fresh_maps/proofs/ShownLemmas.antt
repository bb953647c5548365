-- Filtering and mapping, one element after the other.
use Rattle.std.proofs.Common.{◌≡◌, ◌∙◌, ◌++◌, ◌∷◌, [], Bool, inl, inr, List, sym, append_assoc, if◌then◌else◌}
use Rattle.std.proofs.lemmas.List.{append-nil}
use Rattle.std.specs.Prelude.{map, filter}
use Rattle.std.proofs.lemmas.Bool.{cases_Bool}

-- what is gathered of a list, behind what was gathered before
abbrev pub gathered : {A B : Type 0} → (A → Bool) → (A → B) → List B → List A → List B
gathered test f out [] = out
gathered test f out (x ∷ xs) = gathered test f (out ++ (if test x then f x ∷ [] else [])) xs

-- the next element is taken where it passes
pub next_taken : {A B : Type 0} (test : A → Bool) (f : A → B) (out : List B) (x : A) (xs : List A)
    → (out ++ (if test x then f x ∷ [] else [])) ++ map f (filter test xs) ≡ out ++ map f (filter test (x ∷ xs))
next_taken test f out x xs =
    elim (cases_Bool (test x)) [
      | inl passes ↦ rw passes (append_assoc out (f x ∷ []) (map f (filter test xs)))
      | inr fails ↦ rw fails (append_assoc out [] (map f (filter test xs)))
    ]

-- it is the list, filtered and mapped
pub gathered_is : {A B : Type 0} (test : A → Bool) (f : A → B) (out : List B) (xs : List A) → gathered test f out xs ≡ out ++ map f (filter test xs)
gathered_is test f out [] = sym (append-nil out)
gathered_is test f out (x ∷ xs) = gathered_is test f (out ++ (if test x then f x ∷ [] else [])) xs ∙ next_taken test f out x xs

pub gathered_all : {A B : Type 0} (test : A → Bool) (f : A → B) (xs : List A) → gathered test f [] xs ≡ map f (filter test xs)
gathered_all test f xs = gathered_is test f [] xs
