-- Elements of lists, and searches for them.
use Rattle.std.proofs.Common.{◌≡◌, zero, suc, Bool, true, false, List, [], ◌∷◌, ◌++◌, arith, ◌⊎◌, inl, inr, sym, ◌∙◌, ap, refl}
use Rattle.std.specs.Prelude.{Contains, Some, None}
use Rattle.std.specs.List.{find, list_any, list_all}
use Rattle.std.proofs.lemmas.List.Elements.{Contains-append_cases}
use Rattle.std.proofs.lemmas.Bool.{cases_Bool}

pub no_member : {T : Type 0} (x : T) → Contains [] x → ⊥
no_member x (k, lt, is) = omega arith

-- a member is the first or one of the rest
pub cut_member : {T : Type 0} (x : T) (xs : List T) (a : T) → Contains (x ∷ xs) a → (a ≡ x) ⊎ Contains xs a
cut_member x xs a (zero, lt, is) = inl (sym is)
cut_member x xs a (suc k, lt, is) = inr (k, omega arith, is)

pub first_member : {T : Type 0} (x : T) (xs : List T) → Contains (x ∷ xs) x
first_member x xs = (0, omega arith, refl)

pub rest_member : {T : Type 0} (x : T) (xs : List T) (a : T) → Contains xs a → Contains (x ∷ xs) a
rest_member x xs a (k, lt, is) = (suc k, omega arith, is)

-- a member is the last or one before it
pub cut_last : {T : Type 0} (xs : List T) (x a : T) → Contains (xs ++ x ∷ []) a → (a ≡ x) ⊎ Contains xs a
cut_last xs x a m =
    elim (Contains-append_cases xs (x ∷ []) a m) [
      | inl before ↦ inr before
      | inr last ↦ elim (cut_member x [] a last) [ inl e ↦ inl e | inr none ↦ absurd (no_member a none) ]
    ]

-- a row that a search finds is there, and passes the test
pub find_member : {T : Type 0} (test : T → Bool) (xs : List T) (x : T) → find test xs ≡ Some x → Contains xs x × (test x ≡ true)
find_member test [] x h = absurd (cc)
find_member {T} test (y ∷ ys) x h =
    elim (cases_Bool (test y)) [
      | inl passes ↦
          let same : Some y ≡ Some x = rw passes at h in
          let e : y ≡ x = cc in
          ((0, omega arith, e), rw (← e) passes)
      | inr fails ↦ let rest = find_member test ys x (rw fails at h) in (rest_member y ys x rest.0, rest.1)
    ]

-- where a search finds none, none passes the test
pub find_none : {T : Type 0} (test : T → Bool) (xs : List T) → find test xs ≡ None → (a : T) → Contains xs a → test a ≡ false
find_none test [] h a m = absurd (no_member a m)
find_none {T} test (y ∷ ys) h a m =
    elim (cases_Bool (test y)) [
      | inl passes ↦ let bad : Some y ≡ None = rw passes at h in absurd (cc)
      | inr fails ↦ elim (cut_member y ys a m) [ inl e ↦ rw e fails | inr r ↦ find_none test ys (rw fails at h) a r ]
    ]

-- where no element passes, a search finds none
pub find_nothing : {T : Type 0} (test : T → Bool) (xs : List T) → ((a : T) → Contains xs a → test a ≡ false) → find test xs ≡ None
find_nothing test [] h = refl
find_nothing {T} test (y ∷ ys) h = rw (h y (first_member y ys)) (find_nothing test ys (λ a m. h a (rest_member y ys a m)))

pub list_any_member : {T : Type 0} (test : T → Bool) (xs : List T) → list_any test xs ≡ false → (a : T) → Contains xs a → test a ≡ false
list_any_member test [] h a m = absurd (no_member a m)
list_any_member {T} test (y ∷ ys) h a m =
    elim (cases_Bool (test y)) [
      | inl passes ↦ let bad : true ≡ false = rw passes at h in absurd (cc)
      | inr fails ↦ elim (cut_member y ys a m) [ inl e ↦ rw e fails | inr r ↦ list_any_member test ys (rw fails at h) a r ]
    ]

-- where one passes, it is there
pub list_any_found : {T : Type 0} (test : T → Bool) (xs : List T) → list_any test xs ≡ true → (a : T) × Contains xs a × (test a ≡ true)
list_any_found test [] h = absurd (cc)
list_any_found {T} test (y ∷ ys) h =
    elim (cases_Bool (test y)) [
      | inl passes ↦ (y, first_member y ys, passes)
      | inr fails ↦ let rest = list_any_found test ys (rw fails at h) in (rest.0, rest_member y ys rest.0 rest.1, rest.2)
    ]

pub list_any_is : {T : Type 0} (test : T → Bool) (xs : List T) (a : T) → Contains xs a → test a ≡ true → list_any test xs ≡ true
list_any_is test [] a m h = absurd (no_member a m)
list_any_is {T} test (y ∷ ys) a m h =
    elim (cases_Bool (test y)) [
      | inl passes ↦ rw passes refl
      | inr fails ↦ rw fails (elim (cut_member y ys a m) [
        | inl e ↦ let bad : false ≡ true = sym fails ∙ ap test (sym e) ∙ h in absurd (cc)
        | inr r ↦ list_any_is test ys a r h
      ])
    ]

pub list_all_member : {T : Type 0} (test : T → Bool) (xs : List T) → list_all test xs ≡ true → (a : T) → Contains xs a → test a ≡ true
list_all_member test [] h a m = absurd (no_member a m)
list_all_member {T} test (y ∷ ys) h a m =
    elim (cases_Bool (test y)) [
      | inl passes ↦ elim (cut_member y ys a m) [ inl e ↦ rw e passes | inr r ↦ list_all_member test ys (rw passes at h) a r ]
      | inr fails ↦ let bad : false ≡ true = rw fails at h in absurd (cc)
    ]

pub list_all_is : {T : Type 0} (test : T → Bool) (xs : List T) → ((a : T) → Contains xs a → test a ≡ true) → list_all test xs ≡ true
list_all_is test [] h = refl
list_all_is {T} test (y ∷ ys) h = rw (h y (first_member y ys)) (list_all_is test ys (λ a m. h a (rest_member y ys a m)))
