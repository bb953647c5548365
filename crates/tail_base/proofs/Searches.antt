-- What a search finds.
use Rattle.std.proofs.Common.{◌≡◌, ℕ, zero, suc, ◌<◌, Bool, true, List, [], ◌∷◌, arith, sym, inl, inr, ap, ◌∙◌}
use Rattle.std.specs.List.{list_any}
use Rattle.std.proofs.lemmas.Bool.{false≢true, cases_eq, or_cases, or_left, or_right}
use Rattle.tail_base.specs.Searches.{some_below}

pub some_found : (n : ℕ) (test : ℕ → Bool) (y : ℕ) → y < n → test y ≡ true → some_below n test ≡ true
unfolding some_below
some_found zero test y h e = absurd (omega arith)
some_found (suc n) test y h e = elim (cases_eq y n) [
  | inl same ↦ or_left (test n) (some_below n test) (ap test (sym same) ∙ e)
  | inr other ↦ or_right (test n) (some_below n test) (some_found n test y (omega arith) e)
]

pub some_finds : (n : ℕ) (test : ℕ → Bool) → some_below n test ≡ true → (y : ℕ) × (y < n) × (test y ≡ true)
unfolding some_below
some_finds zero test h = absurd (false≢true h)
some_finds (suc n) test h = elim (or_cases (test n) (some_below n test) h) [
  | inl here ↦ (n, omega arith, here)
  | inr below ↦ (let found = some_finds n test below in let less = found.1 in (found.0, omega arith, found.2))
]

-- an element that passes, of which each other test finds the list by it
pub record Found {A : Type 0} (test : A → Bool) (xs : List A) : Type 0 where
  pub it : A
  pub passes : test it ≡ true
  pub stands : (other : A → Bool) → other it ≡ true → list_any other xs ≡ true

pub any_found : {A : Type 0} (test : A → Bool) (xs : List A) → list_any test xs ≡ true → Found test xs
any_found test [] h = absurd (false≢true h)
any_found test (x ∷ xs) h = elim (or_cases (test x) (list_any test xs) h) [
  | inl here ↦ record { it = x; passes = here; stands = λ other e. or_left (other x) (list_any other xs) e }
  | inr more ↦ (let found = any_found test xs more in
      record { it = found.it; passes = found.passes; stands = λ other e. or_right (other x) (list_any other xs) (found.stands other e) })
]

-- a test that passes wherever another does
pub any_weaker : {A : Type 0} (test other : A → Bool) (xs : List A) → ((x : A) → test x ≡ true → other x ≡ true) → list_any test xs ≡ true → list_any other xs ≡ true
any_weaker test other xs less h = let found = any_found test xs h in found.stands other (less found.it found.passes)
