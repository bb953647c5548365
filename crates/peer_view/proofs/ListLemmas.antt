-- Lists mapped and filtered, and what is found in them.
use Rattle.std.proofs.Common.{◌≡◌, ◌<◌, ℕ, Bool, true, false, List, [], ◌∷◌, arith, refl, ap, sym, ◌∙◌, inl, inr}
use Rattle.std.specs.Prelude.{Contains, filter, map}
use Rattle.std.specs.List.{find}
use Rattle.std.specs.Option.{option_map}
use Rattle.std.proofs.lemmas.Bool.{cases_Bool}
use Rattle.net_rows.specs.Shelf.{IsAscending}
use Rattle.net_rows.proofs.Members.{cut_member, first_member, no_member, rest_member}

pub find_map : {A B : Type 0} (f : A → B) (test : B → Bool) (xs : List A) → find test (map f xs) ≡ option_map f (find (λ x. test (f x)) xs)
find_map f test [] = refl
find_map f test (x ∷ xs) =
    elim (cases_Bool (test (f x))) [
      | inl passes ↦ rw passes refl
      | inr fails ↦ rw fails (find_map f test xs)
    ]

pub map_twice : {A B C : Type 0} (f : A → B) (g : B → C) (xs : List A) → map g (map f xs) ≡ map (λ x. g (f x)) xs
map_twice f g [] = refl
map_twice f g (x ∷ xs) = ap (λ ys. g (f x) ∷ ys) (map_twice f g xs)

pub map_member : {A B : Type 0} (f : A → B) (xs : List A) (a : A) → Contains xs a → Contains (map f xs) (f a)
map_member f [] a m = absurd (no_member a m)
map_member {A} {B} f (x ∷ xs) a m =
    elim (cut_member x xs a m) [
      | inl e ↦ rw e (first_member (f x) (map f xs))
      | inr r ↦ rest_member (f x) (map f xs) (f a) (map_member f xs a r)
    ]

pub mapped_member : {A B : Type 0} (f : A → B) (xs : List A) (b : B) → Contains (map f xs) b → (a : A) × Contains xs a × (f a ≡ b)
mapped_member f [] b m = absurd (no_member b m)
mapped_member {A} {B} f (x ∷ xs) b m =
    elim (cut_member (f x) (map f xs) b m) [
      | inl e ↦ (x, first_member x xs, sym e)
      | inr r ↦ let rest = mapped_member f xs b r in (rest.0, rest_member x xs rest.0 rest.1, rest.2)
    ]

pub filter_member : {A : Type 0} (test : A → Bool) (xs : List A) (a : A) → Contains (filter test xs) a → Contains xs a
filter_member test [] a m = absurd (no_member a m)
filter_member {A} test (x ∷ xs) a m =
    elim (cases_Bool (test x)) [
      | inl passes ↦ elim (cut_member x (filter test xs) a (rw passes at m)) [
        | inl e ↦ rw e (first_member x xs)
        | inr r ↦ rest_member x xs a (filter_member test xs a r)
      ]
      | inr fails ↦ rest_member x xs a (filter_member test xs a (rw fails at m))
    ]

-- what a filtered list has passes the test, and what passes it has
pub filtered_passes : {A : Type 0} (test : A → Bool) (xs : List A) (a : A) → Contains (filter test xs) a → test a ≡ true
filtered_passes test [] a m = absurd (no_member a m)
filtered_passes {A} test (x ∷ xs) a m =
    elim (cases_Bool (test x)) [
      | inl passes ↦ elim (cut_member x (filter test xs) a (rw passes at m)) [
        | inl e ↦ ap test e ∙ passes
        | inr r ↦ filtered_passes test xs a r
      ]
      | inr fails ↦ filtered_passes test xs a (rw fails at m)
    ]

pub filtered_member : {A : Type 0} (test : A → Bool) (xs : List A) (a : A) → Contains xs a → test a ≡ true → Contains (filter test xs) a
filtered_member test [] a m h = absurd (no_member a m)
filtered_member {A} test (x ∷ xs) a m h =
    elim (cases_Bool (test x)) [
      | inl passes ↦ elim (cut_member x xs a m) [
        | inl e ↦ rw (passes, e) (first_member x (filter test xs))
        | inr r ↦ rw passes (rest_member x (filter test xs) a (filtered_member test xs a r h))
      ]
      | inr fails ↦ elim (cut_member x xs a m) [
        | inl e ↦ let clash : false ≡ true = sym fails ∙ ap test (sym e) ∙ h in absurd (cc)
        | inr r ↦ rw fails (filtered_member test xs a r h)
      ]
    ]

pub ascending_map : {A B : Type 0} (id : A → ℕ) (f : A → B) (id' : B → ℕ) → ((a : A) → id' (f a) ≡ id a) → (xs : List A) → IsAscending id xs → IsAscending id' (map f xs)
ascending_map id f id' same [] h = tt
ascending_map {A} {B} id f id' same (x ∷ xs) h = (
  (λ b m. let at = mapped_member f xs b m in
      let less : id x < id at.0 = h.0 at.0 at.1 in
      let first : id' (f x) ≡ id x = same x in
      let other : id' b ≡ id at.0 = ap id' (sym at.2) ∙ same at.0 in
      omega arith),
  ascending_map id f id' same xs h.1,
)

pub ascending_filter : {A : Type 0} (id : A → ℕ) (test : A → Bool) (xs : List A) → IsAscending id xs → IsAscending id (filter test xs)
ascending_filter id test [] h = tt
ascending_filter {A} id test (x ∷ xs) h =
    elim (cases_Bool (test x)) [
      | inl passes ↦ rw passes ((λ b m. h.0 b (filter_member test xs b m)), ascending_filter id test xs h.1)
      | inr fails ↦ rw fails (ascending_filter id test xs h.1)
    ]
