-- Searches of lists, joined and exchanged.
use Rattle.std.proofs.Common.{◌≡◌, ◌||◌, ◌&&◌, Bool, true, false, List, [], ◌∷◌, refl, ap, sym, ◌∙◌}
use Rattle.std.specs.List.{list_any}

or_exchanged : (a b m n : Bool) → ((a || b) || (m || n)) ≡ ((a || m) || (b || n))
or_exchanged true b m n = refl
or_exchanged false true true n = refl
or_exchanged false true false n = refl
or_exchanged false false m n = refl

-- what some element passes, of two tests
pub any_or : {A : Type 0} (p q : A → Bool) (xs : List A) → list_any (λ x. p x || q x) xs ≡ (list_any p xs || list_any q xs)
any_or p q [] = refl
any_or p q (x ∷ xs) = ap (λ m. (p x || q x) || m) (any_or p q xs) ∙ or_exchanged (p x) (q x) (list_any p xs) (list_any q xs)

and_shared : (a m c : Bool) → ((a && c) || (m && c)) ≡ ((a || m) && c)
and_shared true true true = refl
and_shared true true false = refl
and_shared true false true = refl
and_shared true false false = refl
and_shared false m c = refl

-- a condition that doesn't look at the element
pub any_and : {A : Type 0} (p : A → Bool) (c : Bool) (xs : List A) → list_any (λ x. p x && c) xs ≡ (list_any p xs && c)
any_and p c [] = refl
any_and p c (x ∷ xs) = ap (λ m. (p x && c) || m) (any_and p c xs) ∙ and_shared (p x) (list_any p xs) c

-- tests that are one for each element
pub any_same : {A : Type 0} (p q : A → Bool) (xs : List A) → ((x : A) → p x ≡ q x) → list_any p xs ≡ list_any q xs
any_same p q xs h = λ i. list_any (λ x. h x i) xs

pub or_none : (b : Bool) → b ≡ (b || false)
or_none true = refl
or_none false = refl

-- two searches, one after the other, are one for either
pub any_pair : {A : Type 0} (p q : A → Bool) (xs : List A) → (list_any p xs || (list_any q xs || false)) ≡ list_any (λ x. p x || (q x || false)) xs
any_pair {A} p q xs =
    let last : list_any q xs ≡ list_any (λ x. q x || false) xs = any_same q (λ x. q x || false) xs (λ x. or_none (q x)) in
    ap (λ m. list_any p xs || m) (sym (or_none (list_any q xs)) ∙ last) ∙ sym (any_or p (λ x. q x || false) xs)

-- a fact beside either of two
pub either_or : (p q c : Bool) → ((p || c) || ((q || c) || false)) ≡ ((p || (q || false)) || c)
either_or true q c = refl
either_or false true true = refl
either_or false true false = refl
either_or false false true = refl
either_or false false false = refl

-- a shared condition behind either of two
pub either_and : (p q g : Bool) → ((p && g) || ((q && g) || false)) ≡ ((p || (q || false)) && g)
either_and true q true = refl
either_and true true false = refl
either_and true false false = refl
either_and false true true = refl
either_and false true false = refl
either_and false false g = refl
