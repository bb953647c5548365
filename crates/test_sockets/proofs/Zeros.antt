-- Doors that never fail have no faults.
use Rattle.std.proofs.Common.{◌≡◌, ◌+◌, ℕ, List, [], ◌∷◌, sum_by, ap, refl, ◌∙◌}
use Rattle.std.proofs.lemmas.List.Sums.{sum_by-cons}

pub no_faults : {A : Type 0} (f : A → ℕ) → ((x : A) → f x ≡ 0) → (xs : List A) → sum_by f xs ≡ 0
no_faults f none [] = refl
no_faults f none (x ∷ xs) = sum_by-cons f x xs ∙ ap (λ n. n + sum_by f xs) (none x) ∙ ap (λ n. 0 + n) (no_faults f none xs)
