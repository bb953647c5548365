-- The first row that doesn't fit, and what holds where there is none.
use Rattle.std.proofs.Common.{◌≡◌, ◌<◌, ◌≤◌, ◌+◌, ℕ, Bool, true, false, List, [], ◌∷◌, ◌++◌, length, take, drop, get_or, inl, inr, ◌∙◌, refl, append_assoc, add-one}
use Rattle.std.specs.Prelude.{Some, None}
use Rattle.std.proofs.lemmas.List.{append-nil}
use Rattle.std.proofs.Math.Seq.{take-suc, drop-cons}
use Rattle.std.proofs.Math.ListN.{drop_of_length-le}
use Rattle.net_rows.specs.Damage.{first_misfit}
use Rattle.std.proofs.lemmas.Bool.{cases_Bool}

-- what each fitting row keeps holds of all rows
pub misfit_keeps : {T : Type 0} (id : T → ℕ) (fits : List T → T → Bool) (P : List T → Type 0)
    → ((before : List T) (x : T) → P before → fits before x ≡ true → P (before ++ x ∷ []))
    → (before xs : List T) → P before → first_misfit id fits before xs ≡ None → P (before ++ xs)
misfit_keeps id fits P step before [] p h = rw append-nil p
misfit_keeps {T} id fits P step before (x ∷ xs) p h =
    elim (cases_Bool (fits before x)) [
      | inl passes ↦ rw (← append_assoc before (x ∷ []) xs) (misfit_keeps id fits P step (before ++ x ∷ []) xs (step before x p passes) (rw passes at h))
      | inr fails ↦ let bad : Some (id x) ≡ None = rw fails at h in absurd (cc)
    ]

-- where each row fits, there is no misfit
pub no_misfit : {T : Type 0} (id : T → ℕ) (fits : List T → T → Bool) (all : List T)
    → ((before : List T) (x : T) (rest : List T) → before ++ x ∷ rest ≡ all → fits before x ≡ true)
    → (before xs : List T) → before ++ xs ≡ all → first_misfit id fits before xs ≡ None
no_misfit id fits all each before [] e = refl
no_misfit {T} id fits all each before (x ∷ xs) e =
    rw (each before x xs e) (no_misfit id fits all each (before ++ x ∷ []) xs (append_assoc before (x ∷ []) xs ∙ e))

-- one step of the search, from a place where all rows before fit
pub misfit_next : {T : Type 0} (id : T → ℕ) (fits : List T → T → Bool) (xs : List T) (i : ℕ) (d : T) → i < length xs → fits (take i xs) (get_or xs i d) ≡ true
    → first_misfit id fits (take i xs) (drop i xs) ≡ first_misfit id fits (take (i + 1) xs) (drop (i + 1) xs)
misfit_next id fits xs i d lt passes = rw (drop-cons xs i d lt, passes, add-one, take-suc xs i d lt) refl

pub misfit_here : {T : Type 0} (id : T → ℕ) (fits : List T → T → Bool) (xs : List T) (i : ℕ) (d : T) → i < length xs → fits (take i xs) (get_or xs i d) ≡ false
    → first_misfit id fits (take i xs) (drop i xs) ≡ Some (id (get_or xs i d))
misfit_here id fits xs i d lt fails = rw (drop-cons xs i d lt, fails) refl

pub misfit_end : {T : Type 0} (id : T → ℕ) (fits : List T → T → Bool) (xs before : List T) (i : ℕ) → length xs ≤ i → first_misfit id fits before (drop i xs) ≡ None
misfit_end id fits xs before i h = rw (drop_of_length-le xs h) refl
