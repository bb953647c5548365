-- What holds of each element of a list, with one more.
use Rattle.std.proofs.Common.{◌≡◌, ℕ, zero, suc, ◌<◌, Option, Some, List, [], ◌∷◌, ◌++◌, length, map, slice_get, slice_index_or, refl, arith}
use Rattle.std.specs.Prelude.{IfSome}

pub told_each : {A B : Type 0} (f : A → B) (g : A → Option B) → ((x : A) → g x ≡ Some (f x)) → (xs : List A) → map g xs ≡ map Some (map f xs)
told_each f g each [] = refl
told_each f g each (x ∷ xs) = λ i. each x i ∷ told_each f g each xs i

pub each_snoc : {A : Type 0} (P : ℕ → A → Type 0) (xs : List A) (x : A) → ((i : ℕ) → IfSome (slice_get xs i) (P i)) → P (length xs) x → (i : ℕ) → IfSome (slice_get (xs ++ x ∷ []) i) (P i)
each_snoc P [] x each last zero = last
each_snoc P [] x each last (suc i) = tt
each_snoc P (y ∷ ys) x each last zero = each 0
each_snoc P (y ∷ ys) x each last (suc i) = each_snoc (λ j. P (suc j)) ys x (λ j. each (suc j)) last i

pub all_snoc : {A : Type 0} (P : A → Type 0) (xs : List A) (x : A) → ((k : ℕ) (d : A) → k < length xs → P (slice_index_or xs k d)) → P x
    → (k : ℕ) (d : A) → k < length (xs ++ x ∷ []) → P (slice_index_or (xs ++ x ∷ []) k d)
all_snoc P [] x each last zero d lt = last
all_snoc P [] x each last (suc k) d lt = absurd (omega arith)
all_snoc P (y ∷ ys) x each last zero d lt = each 0 d (omega arith)
all_snoc P (y ∷ ys) x each last (suc k) d lt = all_snoc P ys x (λ j e l. each (suc j) e (omega arith)) last k d (omega arith)
