-- Searches of lists that are made of lists.
use Rattle.std.proofs.Common.{◌≡◌, ◌<◌, ◌&&◌, ◌||◌, Bool, true, false, List, [], ◌∷◌, length, arith, refl, ap, sym, ◌∙◌}
use Rattle.std.specs.Prelude.{Contains, flat_map, map}
use Rattle.std.specs.List.{list_any}
use Rattle.std.proofs.Math.Bool.{and-false, and-true}
use Rattle.std.proofs.lemmas.List.Folds.{list_any-append}
use Rattle.net_rows.proofs.Members.{first_member, rest_member}

pub any_map : {A B : Type 0} (test : B → Bool) (f : A → B) (xs : List A) → list_any test (map f xs) ≡ list_any (λ x. test (f x)) xs
any_map test f [] = refl
any_map test f (x ∷ xs) = ap (λ b. test (f x) || b) (any_map test f xs)

pub any_flat_map : {A B : Type 0} (test : B → Bool) (f : A → List B) (xs : List A) → list_any test (flat_map f xs) ≡ list_any (λ x. list_any test (f x)) xs
any_flat_map test f [] = refl
any_flat_map test f (x ∷ xs) = list_any-append test (f x) (flat_map f xs) ∙ ap (λ b. list_any test (f x) || b) (any_flat_map test f xs)

-- the part of a test that is the same for all stands before the search
pub any_and : {A : Type 0} (b : Bool) (test : A → Bool) (xs : List A) → list_any (λ x. b && test x) xs ≡ (b && list_any test xs)
any_and true test xs = refl
any_and false test [] = refl
any_and false test (x ∷ xs) = any_and false test xs

-- or behind it
pub any_and_behind : {A : Type 0} (b : Bool) (test : A → Bool) (xs : List A) → list_any (λ x. test x && b) xs ≡ (list_any test xs && b)
any_and_behind b test [] = refl
any_and_behind true test (x ∷ xs) = ap (λ a. a || list_any (λ y. test y && true) xs) (and-true (test x)) ∙ (ap (λ a. test x || a) (any_and_behind true test xs ∙ and-true (list_any test xs)) ∙ sym (and-true (test x || list_any test xs)))
any_and_behind false test (x ∷ xs) = ap (λ a. a || list_any (λ y. test y && false) xs) (and-false (test x)) ∙ (any_and_behind false test xs ∙ (and-false (list_any test xs) ∙ sym (and-false (test x || list_any test xs))))

-- of a list that has an element
pub any_or : {A : Type 0} (b : Bool) (test : A → Bool) (xs : List A) → 0 < length xs → list_any (λ x. b || test x) xs ≡ (b || list_any test xs)
any_or b test [] some = absurd (omega arith)
any_or true test (x ∷ xs) some = refl
any_or false test (x ∷ xs) some = refl

-- tests that agree at the elements
pub any_same : {A : Type 0} (test other : A → Bool) (xs : List A) → ((x : A) → Contains xs x → test x ≡ other x) → list_any test xs ≡ list_any other xs
any_same test other [] same = refl
any_same test other (x ∷ xs) same =
    ap (λ b. b || list_any test xs) (same x (first_member x xs)) ∙ ap (λ b. other x || b) (any_same test other xs (λ a m. same a (rest_member x xs a m)))
