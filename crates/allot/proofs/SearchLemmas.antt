-- The search for the least number that passes a test.
use Rattle.std.proofs.Common.{◌≡◌, ◌<◌, ◌≤◌, ◌+◌, ◌-◌, ℕ, zero, suc, Bool, true, false, List, [], ◌∷◌, Option, Some, None, is_some, length, position, nat_lt, if◌then◌else◌, ◌⊎◌, inl, inr, arith, sym, ap, ◌∙◌, refl}
use Rattle.std.specs.List.{list_any, position_or_len}
use Rattle.std.proofs.lemmas.Bool.{cases_Bool}
use Rattle.std.proofs.lemmas.Bool.Decides.{nat_tests}
use Rattle.allot.specs.Addresses.{least_from}

-- a number that is no greater is equal, or at least one less
pub equal_or_below : (a b : ℕ) → a ≤ b → (a ≡ b) ⊎ (a + 1 ≤ b)
equal_or_below zero zero h = inl refl
equal_or_below zero (suc b) h = inr (omega arith)
equal_or_below (suc a) zero h = absurd (omega arith)
equal_or_below (suc a) (suc b) h = elim (equal_or_below a b (omega arith)) [ inl e ↦ inl (ap suc e) | inr lt ↦ inr (omega arith) ]

-- the search stops at a number that passes
pub least_from-found : (test : ℕ → Bool) (more n : ℕ) → 0 < more → test n ≡ true → least_from test more n ≡ Some n
unfolding least_from
least_from-found test zero n pos passes = absurd (omega arith)
least_from-found test (suc more) n pos passes = rw passes refl

-- and goes on at one that doesn't
pub least_from-next : (test : ℕ → Bool) (more n : ℕ) → 0 < more → test n ≡ false → least_from test more n ≡ least_from test (more - 1) (n + 1)
unfolding least_from
least_from-next test zero n pos fails = absurd (omega arith)
least_from-next test (suc more) n pos fails = rw fails (ap (λ k. least_from test k (n + 1)) (omega arith))

pub least_from-zero : (test : ℕ → Bool) (n : ℕ) → least_from test 0 n ≡ None
unfolding least_from
least_from-zero test n = refl

-- What is left of a search leads to the same end.
pub record LeadsOn (test : ℕ → Bool) (end n : ℕ) (found : Option ℕ) : Type 0 where
  pub same : least_from test (end - n) n ≡ found

pub LeadsOn-found : (test : ℕ → Bool) (end n : ℕ) (found : Option ℕ) → LeadsOn test end n found → n < end → test n ≡ true → found ≡ Some n
LeadsOn-found test end n found h lt passes = sym h.same ∙ least_from-found test (end - n) n (omega arith) passes

pub LeadsOn-next : (test : ℕ → Bool) (end n : ℕ) (found : Option ℕ) → LeadsOn test end n found → n < end → test n ≡ false → LeadsOn test end (n + 1) found
LeadsOn-next test end n found h lt fails =
    let next : least_from test (end - n - 1) (n + 1) ≡ found = sym (least_from-next test (end - n) n (omega arith) fails) ∙ h.same in
    let step : end - n - 1 ≡ end - (n + 1) = omega arith in
    record { same = rw step at next }

pub LeadsOn-end : (test : ℕ → Bool) (end : ℕ) (found : Option ℕ) → LeadsOn test end end found → found ≡ None
LeadsOn-end test end found h =
    let done : end - end ≡ 0 = omega arith in
    sym (rw done at h.same) ∙ least_from-zero test end

-- what the search finds passes
pub least_from-passes : (test : ℕ → Bool) (more n m : ℕ) → least_from test more n ≡ Some m → test m ≡ true
unfolding least_from
least_from-passes test zero n m h = absurd (cc)
least_from-passes test (suc more) n m h =
    elim (cases_Bool (test n)) [
      | inl passes ↦
          let same : Some n ≡ Some m = rw passes at h in
          let e : n ≡ m = cc in rw (← e) passes
      | inr fails ↦ least_from-passes test more (n + 1) m (rw fails at h)
    ]

-- it is one of the numbers that are searched
pub least_from-within : (test : ℕ → Bool) (more n m : ℕ) → least_from test more n ≡ Some m → (n ≤ m) × (m < n + more)
unfolding least_from
least_from-within test zero n m h = absurd (cc)
least_from-within test (suc more) n m h =
    elim (cases_Bool (test n)) [
      | inl passes ↦
          let same : Some n ≡ Some m = rw passes at h in
          let e : n ≡ m = cc in (omega arith, omega arith)
      | inr fails ↦
          let rest : (n + 1 ≤ m) × (m < n + 1 + more) = least_from-within test more (n + 1) m (rw fails at h) in
          (omega arith, omega arith)
    ]

-- no number before it passes
pub least_from-least : (test : ℕ → Bool) (more n m : ℕ) → least_from test more n ≡ Some m → (k : ℕ) → n ≤ k → k < m → test k ≡ false
unfolding least_from
least_from-least test zero n m h k low high = absurd (cc)
least_from-least test (suc more) n m h k low high =
    elim (cases_Bool (test n)) [
      | inl passes ↦
          let same : Some n ≡ Some m = rw passes at h in
          let e : n ≡ m = cc in absurd (omega arith)
      | inr fails ↦
          elim (equal_or_below n k low) [
            | inl here ↦ rw (← here) fails
            | inr past ↦ least_from-least test more (n + 1) m (rw fails at h) k past high
          ]
    ]

-- where it finds none, none passes
pub least_from-none : (test : ℕ → Bool) (more n : ℕ) → least_from test more n ≡ None → (k : ℕ) → n ≤ k → k < n + more → test k ≡ false
unfolding least_from
least_from-none test zero n h k low high = absurd (omega arith)
least_from-none test (suc more) n h k low high =
    elim (cases_Bool (test n)) [
      | inl passes ↦
          let found : Some n ≡ None = rw passes at h in cc
      | inr fails ↦
          elim (equal_or_below n k low) [
            | inl here ↦ rw (← here) fails
            | inr past ↦ least_from-none test more (n + 1) (rw fails at h) k past (omega arith)
          ]
    ]

some_cond : (b : Bool) (n : ℕ) → is_some (if b then Some n else None) ≡ b
some_cond true n = refl
some_cond false n = refl

lt_next : (a b : ℕ) → nat_lt (1 + a) (suc b) ≡ nat_lt a b
lt_next a b = grind (arith, nat_tests)

before_end : {A : Type 0} (test : A → Bool) (xs : List A) → nat_lt (position_or_len test xs) (length xs) ≡ list_any test xs
before_end test [] = refl
before_end test (x ∷ xs) =
    elim (cases_Bool (test x)) [
      | inl passes ↦ rw passes (grind (arith, nat_tests))
      | inr fails ↦ rw fails (lt_next (position_or_len test xs) (length xs) ∙ before_end test xs)
    ]

-- there is a first that passes exactly where one does
pub some_position : {A : Type 0} (test : A → Bool) (xs : List A) → is_some (position test xs) ≡ list_any test xs
some_position test xs = some_cond (nat_lt (position_or_len test xs) (length xs)) (position_or_len test xs) ∙ before_end test xs
