-- Elements in ascending order, each once: they rise, and they are those that were given.
use Rattle.std.proofs.Common.{◌≡◌, ◌≤◌, ◌+◌, Bool, true, false, ◌||◌, List, [], ◌∷◌, length, arith, refl, sym, ap, ◌∙◌}
use Rattle.std.proofs.Math.Bool.{or_assoc, or-false, or_self_left}
use Rattle.std.specs.Prelude.{fold}
use Rattle.std.specs.List.{AllByRecursion, list_any}
use Rattle.std.specs.List.Sorted.{IsStrictlySortedBy}
use Rattle.std.specs.Cmp.{IsTotalOrder}
use Rattle.std.specs.Ordering.{match_ordering, ordering_reverse}
use Rattle.std.specs.declared.cmp.Ordering.{Ordering}
use Rattle.std.specs.declared.cmp.Ordering.TheVariants.{Less, Equal, Greater}
use Rattle.tail_base.specs.Sorted.{with_element, sorted_once}
use Rattle.tail_base.proofs.Bools.{or_swap}

-- a greater element is one that is less, turned round
turned : {T : Type 0} (cmp : T → T → Ordering) → IsTotalOrder cmp → (x y : T) → cmp x y ≡ Greater → cmp y x ≡ Less
turned cmp total x y h = total.antisymm y x ∙ ap ordering_reverse h

-- what is below an element is below all above it
below_all : {T : Type 0} (cmp : T → T → Ordering) → IsTotalOrder cmp → (x y : T) (ys : List T) → cmp x y ≡ Less → AllByRecursion (λ z. cmp y z ≡ Less) ys → AllByRecursion (λ z. cmp x z ≡ Less) ys
below_all cmp total x y [] h all = all
below_all cmp total x y (z ∷ zs) h all = (total.trans x y z h all.0, below_all cmp total x y zs h all.1)

-- an element above y among elements above y
above_stays : {T : Type 0} (cmp : T → T → Ordering) (y x : T) (ys : List T) → cmp y x ≡ Less → AllByRecursion (λ z. cmp y z ≡ Less) ys → AllByRecursion (λ z. cmp y z ≡ Less) (with_element cmp ys x)
above_stays cmp y x [] h all = (h, tt)
above_stays cmp y x (z ∷ zs) h all =
    elim (cmp x z) as (λ o. AllByRecursion (λ w. cmp y w ≡ Less) (match_ordering o (x ∷ z ∷ zs) (z ∷ zs) (z ∷ with_element cmp zs x))) [
      | Less ↦ (h, all)
      | Equal ↦ all
      | Greater ↦ (all.0, above_stays cmp y x zs h all.1)
    ]

rises_by : {T : Type 0} (cmp : T → T → Ordering) → IsTotalOrder cmp → (y x : T) (ys : List T) → IsStrictlySortedBy cmp (y ∷ ys) → IsStrictlySortedBy cmp (with_element cmp ys x)
    → (o : Ordering) → cmp x y ≡ o → IsStrictlySortedBy cmp (match_ordering o (x ∷ y ∷ ys) (y ∷ ys) (y ∷ with_element cmp ys x))
unfolding IsStrictlySortedBy
rises_by cmp total y x ys h rest Less e = ((e, below_all cmp total x y ys e h.0), h)
rises_by cmp total y x ys h rest Equal e = h
rises_by cmp total y x ys h rest Greater e = (above_stays cmp y x ys (turned cmp total x y e) h.0, rest)

with_element_rises : {T : Type 0} (cmp : T → T → Ordering) → IsTotalOrder cmp → (ys : List T) (x : T) → IsStrictlySortedBy cmp ys → IsStrictlySortedBy cmp (with_element cmp ys x)
unfolding IsStrictlySortedBy
with_element_rises cmp total [] x h = (tt, tt)
with_element_rises cmp total (y ∷ ys) x h = rises_by cmp total y x ys h (with_element_rises cmp total ys x h.1) (cmp x y) refl

fold_rises : {T : Type 0} (cmp : T → T → Ordering) → IsTotalOrder cmp → (held xs : List T) → IsStrictlySortedBy cmp held → IsStrictlySortedBy cmp (fold (with_element cmp) held xs)
fold_rises cmp total held [] h = h
fold_rises cmp total held (x ∷ xs) h = fold_rises cmp total (with_element cmp held x) xs (with_element_rises cmp total held x h)

pub sorted_once_rises : {T : Type 0} (cmp : T → T → Ordering) → IsTotalOrder cmp → (xs : List T) → IsStrictlySortedBy cmp (sorted_once cmp xs)
unfolding IsStrictlySortedBy
sorted_once_rises cmp total xs = fold_rises cmp total [] xs tt

-- an element passes some test of the list exactly where it passed before, or is the new one
member_by : {T : Type 0} (cmp : T → T → Ordering) (same : (a b : T) → cmp a b ≡ Equal → a ≡ b) (test : T → Bool) (y x : T) (ys : List T)
    → list_any test (with_element cmp ys x) ≡ (test x || list_any test ys)
    → (o : Ordering) → cmp x y ≡ o → list_any test (match_ordering o (x ∷ y ∷ ys) (y ∷ ys) (y ∷ with_element cmp ys x)) ≡ (test x || (test y || list_any test ys))
member_by cmp same test y x ys rest Less e = refl
member_by cmp same test y x ys rest Equal e = rw (same x y e) (sym (or_self_left (test y) (list_any test ys)))
member_by cmp same test y x ys rest Greater e = rw rest (or_swap (test y) (test x) (list_any test ys))

with_element_any : {T : Type 0} (cmp : T → T → Ordering) (same : (a b : T) → cmp a b ≡ Equal → a ≡ b) (test : T → Bool) (ys : List T) (x : T)
    → list_any test (with_element cmp ys x) ≡ (test x || list_any test ys)
with_element_any cmp same test [] x = refl
with_element_any cmp same test (y ∷ ys) x = member_by cmp same test y x ys (with_element_any cmp same test ys x) (cmp x y) refl

fold_any : {T : Type 0} (cmp : T → T → Ordering) (same : (a b : T) → cmp a b ≡ Equal → a ≡ b) (test : T → Bool) (held xs : List T)
    → list_any test (fold (with_element cmp) held xs) ≡ (list_any test xs || list_any test held)
fold_any cmp same test held [] = refl
fold_any cmp same test held (x ∷ xs) =
    fold_any cmp same test (with_element cmp held x) xs
    ∙ (rw (with_element_any cmp same test held x) (or_swap (list_any test xs) (test x) (list_any test held)) ∙ sym (or_assoc (test x) (list_any test xs) (list_any test held)))

-- the elements that pass a test are there exactly where some were given
pub sorted_once_any : {T : Type 0} (cmp : T → T → Ordering) (same : (a b : T) → cmp a b ≡ Equal → a ≡ b) (test : T → Bool) (xs : List T)
    → list_any test (sorted_once cmp xs) ≡ list_any test xs
sorted_once_any cmp same test xs = fold_any cmp same test [] xs ∙ or-false (list_any test xs)

with_element_same : {T : Type 0} (cmp other : T → T → Ordering) → ((x y : T) → cmp x y ≡ other x y) → (ys : List T) (x : T) → with_element cmp ys x ≡ with_element other ys x
with_element_same cmp other same [] x = refl
with_element_same cmp other same (y ∷ ys) x = rw (same x y, with_element_same cmp other same ys x) refl

fold_same : {T : Type 0} (cmp other : T → T → Ordering) → ((x y : T) → cmp x y ≡ other x y) → (held xs : List T) → fold (with_element cmp) held xs ≡ fold (with_element other) held xs
fold_same cmp other same held [] = refl
fold_same cmp other same held (x ∷ xs) = rw (with_element_same cmp other same held x) (fold_same cmp other same (with_element other held x) xs)

-- two comparisons that agree give one list
pub sorted_once_same : {T : Type 0} (cmp other : T → T → Ordering) → ((x y : T) → cmp x y ≡ other x y) → (xs : List T) → sorted_once cmp xs ≡ sorted_once other xs
sorted_once_same cmp other same xs = fold_same cmp other same [] xs

length_by : {T : Type 0} (cmp : T → T → Ordering) (y x : T) (ys : List T) → length (with_element cmp ys x) ≤ length ys + 1
    → (o : Ordering) → length (match_ordering o (x ∷ y ∷ ys) (y ∷ ys) (y ∷ with_element cmp ys x)) ≤ length (y ∷ ys) + 1
length_by cmp y x ys rest Less = omega arith
length_by cmp y x ys rest Equal = omega arith
length_by cmp y x ys rest Greater = omega (arith, rest)

length-with_element : {T : Type 0} (cmp : T → T → Ordering) (ys : List T) (x : T) → length (with_element cmp ys x) ≤ length ys + 1
length-with_element cmp [] x = omega arith
length-with_element cmp (y ∷ ys) x = length_by cmp y x ys (length-with_element cmp ys x) (cmp x y)

length-fold : {T : Type 0} (cmp : T → T → Ordering) (held xs : List T) → length (fold (with_element cmp) held xs) ≤ length held + length xs
length-fold cmp held [] = omega arith
length-fold cmp held (x ∷ xs) = omega (arith, length-with_element cmp held x, length-fold cmp (with_element cmp held x) xs)

-- in order, the elements are no more than there were
pub length-sorted_once : {T : Type 0} (cmp : T → T → Ordering) (xs : List T) → length (sorted_once cmp xs) ≤ length xs
length-sorted_once cmp xs = omega (arith, length-fold cmp [] xs)
