-- Lists that grow by what their elements stand for.
use Rattle.std.proofs.Common.{◌≡◌, ◌<◌, ◌+◌, ℕ, Bool, List, [], ◌∷◌, ◌++◌, length, add-one, drop, drop-cons, get_or, append_assoc, refl, ap, sym, ◌∙◌, if◌then◌else◌}
use Rattle.std.specs.Prelude.{flat_map}
use Rattle.policy_tests.specs.Sides.{places_from}

-- the elements from a place on are the one there and those behind it
pub cut_here : {A : Type 0} (xs : List A) (i : ℕ) (x : A) → i < length xs → x ≡ get_or xs i x → drop i xs ≡ x ∷ drop (i + 1) xs
cut_here {A} xs i x lt is =
    let front : drop i xs ≡ get_or xs i x ∷ drop (i + 1) xs = rw (add-one, drop-cons xs i x) refl in
    front ∙ ap (λ (z : A). z ∷ drop (i + 1) xs) (sym is)

-- one more element of all
pub standing_more : {A B : Type 0} (f : A → List B) (xs : List A) (i : ℕ) (out new : List B) (x : A) (all : List B) → i < length xs → x ≡ get_or xs i x
    → out ++ flat_map f (drop i xs) ≡ all → new ≡ out ++ f x → new ++ flat_map f (drop (i + 1) xs) ≡ all
standing_more {A} {B} f xs i out new x all lt is told put =
    let step : (out ++ f x) ++ flat_map f (drop (i + 1) xs) ≡ out ++ flat_map f (x ∷ drop (i + 1) xs) = append_assoc out (f x) (flat_map f (drop (i + 1) xs)) in
    let whole : out ++ flat_map f (x ∷ drop (i + 1) xs) ≡ all = ap (λ (zs : List A). out ++ flat_map f zs) (sym (cut_here xs i x lt is)) ∙ told in
    ap (λ (zs : List B). zs ++ flat_map f (drop (i + 1) xs)) put ∙ (step ∙ whole)

-- one more place, where the element there passes
pub placed_more : {A : Type 0} (test : A → Bool) (xs : List A) (i : ℕ) (out new : List ℕ) (x : A) (all : List ℕ) → i < length xs → x ≡ get_or xs i x
    → out ++ places_from test i (drop i xs) ≡ all → new ≡ out ++ (if test x then i ∷ [] else []) → new ++ places_from test (i + 1) (drop (i + 1) xs) ≡ all
placed_more {A} test xs i out new x all lt is told put =
    let rest = places_from test (i + 1) (drop (i + 1) xs) in
    let whole : out ++ places_from test i (x ∷ drop (i + 1) xs) ≡ all = ap (λ (zs : List A). out ++ places_from test i zs) (sym (cut_here xs i x lt is)) ∙ told in
    ap (λ (zs : List ℕ). zs ++ rest) put ∙ (append_assoc out (if test x then i ∷ [] else []) rest ∙ whole)
