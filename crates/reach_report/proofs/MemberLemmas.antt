-- Elements of lists that were joined, kept and searched.
use Rattle.std.proofs.Common.{◌≡◌, ◌<◌, ◌+◌, ℕ, zero, suc, Bool, true, false, List, [], ◌∷◌, ◌++◌, arith, refl, sym, ap, subst, ◌∙◌, inl, inr}
use Rattle.std.specs.Prelude.{Contains, Option, Some, None, filter_map, flat_map, slice_get}
use Rattle.std.specs.List.{cons_option, position_from}
use Rattle.std.specs.Option.{option_map_or}
use Rattle.std.proofs.lemmas.List.Elements.{Contains-append_cases, Contains-append_left, Contains-append_right}
use Rattle.std.proofs.lemmas.Option.{get_or_from_slice_get, slice_get_within}
use Rattle.net_rows.proofs.Members.{cut_member, first_member, no_member, rest_member}
use Rattle.reach_report.proofs.FirstLemmas.{IsFirstPlace, passes_at}

-- ---- lists that were joined

pub joined_member : {X A : Type 0} (f : X → List A) (xs : List X) (a : A) → Contains (flat_map f xs) a → (x : X) × Contains xs x × Contains (f x) a
joined_member f [] a m = absurd (no_member a m)
joined_member f (x ∷ xs) a m =
    elim (Contains-append_cases (f x) (flat_map f xs) a m) [
      | inl here ↦ (x, first_member x xs, here)
      | inr more ↦ let rest = joined_member f xs a more in (rest.0, rest_member x xs rest.0 rest.1, rest.2)
    ]

pub member_joined : {X A : Type 0} (f : X → List A) (xs : List X) (x : X) (a : A) → Contains xs x → Contains (f x) a → Contains (flat_map f xs) a
member_joined f [] x a m h = absurd (no_member x m)
member_joined {X} {A} f (y ∷ ys) x a m h =
    elim (cut_member y ys x m) [
      | inl e ↦ Contains-append_left (f y) (flat_map f ys) a (subst (λ (z : X). Contains (f z) a) e h)
      | inr r ↦ Contains-append_right (f y) (flat_map f ys) a (member_joined f ys x a r h)
    ]

-- ---- what elements stand for

behind : {U : Type 0} (o : Option U) (us : List U) (u : U) → Contains us u → Contains (cons_option o us) u
behind None us u m = m
behind (Some v) us u m = rest_member v us u m

pub kept_member : {T U : Type 0} (f : T → Option U) (xs : List T) (u : U) → Contains (filter_map f xs) u → (x : T) × Contains xs x × (f x ≡ Some u)
kept_member f [] u m = absurd (no_member u m)
kept_member {T} {U} f (x ∷ xs) u m = go (f x) refl (λ r. kept_member f xs u r) m
  where
    later : ((z : T) × Contains xs z × (f z ≡ Some u)) → (z : T) × Contains (x ∷ xs) z × (f z ≡ Some u)
    later at = (at.0, rest_member x xs at.0 at.1, at.2)

    go : (o : Option U) → f x ≡ o → (Contains (filter_map f xs) u → (z : T) × Contains xs z × (f z ≡ Some u)) → Contains (cons_option o (filter_map f xs)) u → (z : T) × Contains (x ∷ xs) z × (f z ≡ Some u)
    go None e rest r = later (rest r)
    go (Some v) e rest r = elim (cut_member v (filter_map f xs) u r) [
      | inl is ↦ (x, first_member x xs, e ∙ ap Some (sym is))
      | inr more ↦ later (rest more)
    ]

pub member_kept : {T U : Type 0} (f : T → Option U) (xs : List T) (x : T) (u : U) → Contains xs x → f x ≡ Some u → Contains (filter_map f xs) u
member_kept f [] x u m e = absurd (no_member x m)
member_kept {T} {U} f (y ∷ ys) x u m e =
    elim (cut_member y ys x m) [
      | inl is ↦
          let here : f y ≡ Some u = ap f (sym is) ∙ e in
          subst (λ (o : Option U). Contains (cons_option o (filter_map f ys)) u) (sym here) (first_member u (filter_map f ys))
      | inr r ↦ behind (f y) (filter_map f ys) u (member_kept f ys x u r e)
    ]

-- ---- places

pub member_at : {A : Type 0} (xs : List A) (n : ℕ) (x : A) → slice_get xs n ≡ Some x → Contains xs x
member_at xs n x e = (n, slice_get_within xs n x e, get_or_from_slice_get xs n x x e)

-- the element at a place that passes
pub passing : {A : Type 0} (test : A → Bool) (xs : List A) (n : ℕ) → passes_at test xs n ≡ true → (x : A) × (slice_get xs n ≡ Some x) × (test x ≡ true)
passing {A} test xs n h = go (slice_get xs n) refl h
  where
    go : (o : Option A) → slice_get xs n ≡ o → option_map_or test o false ≡ true → (x : A) × (slice_get xs n ≡ Some x) × (test x ≡ true)
    go None e p = absurd (cc)
    go (Some x) e p = (x, e, p)

pub failing : {A : Type 0} (test : A → Bool) (xs : List A) (n : ℕ) → ((x : A) → slice_get xs n ≡ Some x → test x ≡ false) → passes_at test xs n ≡ false
failing {A} test xs n h = go (slice_get xs n) refl
  where
    go : (o : Option A) → slice_get xs n ≡ o → option_map_or test (slice_get xs n) false ≡ false
    go None e = ap (λ (o : Option A). option_map_or test o false) e
    go (Some x) e = ap (λ (o : Option A). option_map_or test o false) e ∙ h x e

pub place_from : {A : Type 0} (test : A → Bool) (from : ℕ) (xs : List A) (n : ℕ) → IsFirstPlace test xs n → position_from test from xs ≡ Some (from + n)
place_from test from [] n first = let bad : false ≡ true = first.passes in absurd (cc)
place_from {A} test from (x ∷ xs) zero first =
    let passes : test x ≡ true = first.passes in
    let e : from ≡ from + 0 = omega arith in
    rw passes (ap (λ (m : ℕ). Some m) e)
place_from {A} test from (x ∷ xs) (suc n) first =
    let fails : test x ≡ false = first.before zero (omega arith) in
    let rest = place_from test (from + 1) xs n (record { passes = first.passes; before = λ m lt. first.before (suc m) (omega arith) }) in
    let e : from + 1 + n ≡ from + suc n = omega arith in
    rw fails (rest ∙ ap (λ (m : ℕ). Some m) e)

pub place_of_all : {A : Type 0} (test : A → Bool) (xs : List A) (n : ℕ) → IsFirstPlace test xs n → position_from test 0 xs ≡ Some n
place_of_all test xs n first =
    let e : 0 + n ≡ n = omega arith in
    place_from test 0 xs n first ∙ ap (λ (m : ℕ). Some m) e
