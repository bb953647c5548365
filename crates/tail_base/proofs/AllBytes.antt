-- What holds of all bytes of a list holds of its parts, and of lists that are joined.
use Rattle.std.proofs.Common.{◌≡◌, ◌<◌, ℕ, Bool, true, List, [], ◌∷◌, ◌++◌, zero, suc, length, take, drop, get_or, arith, refl}
use Rattle.std.specs.List.{list_all}
use Rattle.std.specs.Str.{IsAscii}
use Rattle.std.proofs.lemmas.Bool.{and_parts, and_from}
use Rattle.std.proofs.lemmas.Grind.{common_steps}

-- the bytes pass each test that is asked less
pub all_weaker : (p q : ℕ → Bool) → ((b : ℕ) → p b ≡ true → q b ≡ true) → (bs : List ℕ) → list_all p bs ≡ true → list_all q bs ≡ true
all_weaker p q less [] h = refl
all_weaker p q less (b ∷ bs) h =
    let parts = and_parts _ _ h in
    and_from _ _ (less b parts.0) (all_weaker p q less bs parts.1)

pub all_append : (p : ℕ → Bool) (xs ys : List ℕ) → list_all p xs ≡ true → list_all p ys ≡ true → list_all p (xs ++ ys) ≡ true
all_append p [] ys h k = k
all_append p (x ∷ xs) ys h k =
    let parts = and_parts _ _ h in
    and_from _ _ parts.0 (all_append p xs ys parts.1 k)

pub all_take : (p : ℕ → Bool) (n : ℕ) (xs : List ℕ) → list_all p xs ≡ true → list_all p (take n xs) ≡ true
all_take p zero xs h = refl
all_take p (suc n) [] h = refl
all_take p (suc n) (x ∷ xs) h =
    let parts = and_parts _ _ h in
    and_from _ _ parts.0 (all_take p n xs parts.1)

pub all_drop : (p : ℕ → Bool) (n : ℕ) (xs : List ℕ) → list_all p xs ≡ true → list_all p (drop n xs) ≡ true
all_drop p zero xs h = h
all_drop p (suc n) [] h = refl
all_drop p (suc n) (x ∷ xs) h = all_drop p n xs (and_parts _ _ h).1

pub all_at : (p : ℕ → Bool) (xs : List ℕ) (i : ℕ) → list_all p xs ≡ true → i < length xs → p (get_or xs i 0) ≡ true
all_at p [] i h below = absurd (omega arith)
all_at p (x ∷ xs) zero h below = (and_parts _ _ h).0
all_at p (x ∷ xs) (suc i) h below = all_at p xs i (and_parts _ _ h).1 (omega arith)

-- bytes below 128 are ASCII
pub all_ascii : (p : ℕ → Bool) → ((b : ℕ) → p b ≡ true → b < 128) → (bs : List ℕ) → list_all p bs ≡ true → IsAscii bs
all_ascii p small [] h i = grind (arith, common_steps)
all_ascii p small (b ∷ bs) h zero = small b (and_parts _ _ h).0
all_ascii p small (b ∷ bs) h (suc i) = all_ascii p small bs (and_parts _ _ h).1 i
