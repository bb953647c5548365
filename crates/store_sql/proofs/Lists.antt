-- What a search for one rowid finds, and what is left without it: of any rows that stand under ids.
use Rattle.std.proofs.Common.{◌≡◌, ◌++◌, ◌&&◌, suc, ap₂, ℕ, pos, List, [], ◌∷◌, map, filter, length, flat_map, Bool, true, false, not, cond, nat_eq, nat_lt, Some, refl, sym, ap, ◌∙◌, arith, IsPermutation}
use Rattle.std.proofs.lemmas.Int.{ints}
use Rattle.std.proofs.lemmas.Bool.Decides.{nat_tests}
use Rattle.std.proofs.lemmas.Bool.{eqb-true}
use Rattle.std.proofs.lemmas.List.Elements.{recursion_from_All, All-from_recursion}
use Rattle.std.proofs.lemmas.List.Sorted.{length_permutation, All-permutation}
use Rattle.std.specs.List.{AllByRecursion, list_all}
use Rattle.std.specs.Ordering.{is_eq, is_lt}
use Rattle.sqlite_value.specs.declared.value.Value.TheVariants.{Int}
use Rattle.sqlite_value.specs.declared.keys.Collation.TheVariants.{Binary}
use Rattle.sqlite_value.specs.Order.{Row, value_cmp}
use Rattle.sqlite_value.proofs.OrderLemmas.{value_cmp-Int}
use Rattle.sqlite_sql.specs.declared.ops.BinaryOp.TheVariants.{Compare}
use Rattle.sqlite_sql.specs.declared.ops.CompareOp.TheVariants.{Eq}
use Rattle.sqlite_sql.specs.Ops.{binary, is_true, from_truth}
use Rattle.sqlite_sql.specs.Term.{Env, Term, col, op2, eval_all, holds}
use Rattle.sqlite_sql.specs.Query.{Output}
use Rattle.sqlite_trees.specs.Tree.{without_rowid}
use Rattle.sqlite_rules.specs.Edit.{without_all}
use Rattle.sqlite_rules.specs.Calls.{ids_of}
use Rattle.sqlite_keyed.proofs.ListLemmas.{filter-filter}

same_id : (a b : ℕ) → is_eq (value_cmp (Int (pos a)) (Int (pos b))) ≡ nat_eq a b
same_id a b = ap is_eq (value_cmp-Int (pos a) (pos b)) ∙ grind (arith, ints, nat_tests)

less_id : (a b : ℕ) → is_lt (value_cmp (Int (pos a)) (Int (pos b))) ≡ nat_lt a b
less_id a b = ap is_lt (value_cmp-Int (pos a) (pos b)) ∙ grind (arith, ints, nat_tests)

truth_back : (b : Bool) → is_true (from_truth (Some b)) ≡ b
truth_back true = refl
truth_back false = refl

matches_id : (a b : ℕ) → is_true (binary (Compare Eq Binary) (Int (pos a)) (Int (pos b))) ≡ nat_eq a b
unfolding binary
matches_id a b = truth_back _ ∙ same_id a b

one_value : {X Y : Type 0} (h : X) (n : List Y) (ys : List X) → length ys ≡ length n → AllByRecursion (λ y. y ≡ h) ys → ys ≡ map (λ _. h) n
one_value h [] [] len all = refl
one_value h [] (y ∷ ys) len all = absurd (omega (arith, len))
one_value h (m ∷ n) [] len all = absurd (omega (arith, len))
one_value h (m ∷ n) (y ∷ ys) len all = rw all.0 (ap (λ l. h ∷ l) (one_value h n ys (omega (arith, len)) all.1))

all_one : {X Y : Type 0} (h : X) (n : List Y) → AllByRecursion (λ y. y ≡ h) (map (λ _. h) n)
all_one h [] = tt
all_one h (m ∷ n) = (refl, all_one h n)

pub length_one : {X Y : Type 0} (h : X) (n : List Y) → length (map (λ _. h) n) ≡ length n
length_one h [] = refl
length_one h (m ∷ n) = ap suc (length_one h n)

-- copies of one value in another order are the same copies
pub copies : {X Y : Type 0} (h : X) (n : List Y) (ys : List X) → IsPermutation (map (λ _. h) n) ys → ys ≡ map (λ _. h) n
copies h n ys same =
    one_value h n ys (length_permutation _ ys same ∙ length_one h n) (recursion_from_All (λ y. y ≡ h) ys (All-permutation (λ y. y ≡ h) _ ys same (All-from_recursion (λ y. y ≡ h) _ (all_one h n))))

pub map_one : {X Y Z : Type 0} (f : X → Z) (h : X) (n : List Y) → map f (map (λ _. h) n) ≡ map (λ _. f h) n
map_one f h [] = refl
map_one f h (m ∷ n) = ap (λ l. f h ∷ l) (map_one f h n)

cond_map : {A B : Type 0} (f : A → B) (b : Bool) (x : A) (xs : List A) → cond b (f x ∷ map f xs) (map f xs) ≡ map f (cond b (x ∷ xs) xs)
cond_map f true x xs = refl
cond_map f false x xs = refl

-- what a search without an order shows
abbrev pub hit : Row → Output
hit given = ([], given)

abbrev pub out_of : List Term → Env → Output
out_of project env = ([], eval_all project env)

module _ {A : Type 0} (key : A → ℕ) (rest : A → Row) where
  -- the row of a tree: its rowid is the id
  abbrev pub row_of : A → Row
  row_of x = Int (pos (key x)) ∷ rest x

  abbrev pub found : ℕ → List A → List A
  found id = filter (λ x. nat_eq (key x) id)

  abbrev pub left : ℕ → List A → List A
  left id = filter (λ x. not (nat_eq (key x) id))

  abbrev pub kept_if : Row → Bool → Row → List Env
  kept_if params b r = cond b ((params ∷ r ∷ []) ∷ []) []

  -- what a search by the first parameter shows, where each row that it finds shows the same
  pub hits : (id : ℕ) (more : Row) (project : List Term) (given : Row) → ((x : A) → key x ≡ id → eval_all project ((Int (pos id) ∷ more) ∷ row_of x ∷ []) ≡ given) → (xs : List A)
      → map (out_of project) (flat_map (λ r. kept_if (Int (pos id) ∷ more) (list_all (holds ((Int (pos id) ∷ more) ∷ r ∷ [])) (op2 (Compare Eq Binary) (col 1 0) (col 0 0) ∷ [])) r) (map row_of xs))
      ≡ map (λ _. hit given) (found id xs)
  hits id more project given shows [] = refl
  hits id more project given shows (x ∷ xs) = rw (matches_id (key x) id) (go (nat_eq (key x) id) _ (eqb-true (key x) id) (hits id more project given shows xs))
    where
      go : (b : Bool) (others : List Env) → (b ≡ true → key x ≡ id) → map (out_of project) others ≡ map (λ _. hit given) (found id xs)
          → map (out_of project) (kept_if (Int (pos id) ∷ more) (b && true) (row_of x) ++ others) ≡ map (λ _. hit given) (cond b (x ∷ found id xs) (found id xs))
      go true others is same = ap₂ (λ r l. hit r ∷ l) (shows x (is refl)) same
      go false others is same = same

  pub without_stored : (id : ℕ) (xs : List A) → without_rowid (pos id) (map row_of xs) ≡ map row_of (left id xs)
  without_stored id [] = refl
  without_stored id (x ∷ xs) = rw (same_id (key x) id, without_stored id xs) (cond_map row_of (not (nat_eq (key x) id)) x (left id xs))

  absent : (id : ℕ) (xs : List A) → left id (left id xs) ≡ left id xs
  absent id xs = filter-filter (λ x. not (nat_eq (key x) id)) (λ x. not (nat_eq (key x) id)) (λ x h. h) xs

  wiped : (id : ℕ) (xs n : List A) → left id xs ≡ xs → without_all (map row_of xs) (map (λ _. pos id) n) ≡ map row_of xs
  wiped id xs [] none = refl
  wiped id xs (m ∷ n) none = ap (λ l. without_all l (map (λ _. pos id) n)) (without_stored id xs ∙ ap (map row_of) none) ∙ wiped id xs n none

  pub none_found : (id : ℕ) (xs : List A) → found id xs ≡ [] → left id xs ≡ xs
  none_found id [] h = refl
  none_found id (x ∷ xs) h = go (nat_eq (key x) id) (none_found id xs) h
    where
      go : (b : Bool) → (found id xs ≡ [] → left id xs ≡ xs) → cond b (x ∷ found id xs) (found id xs) ≡ [] → cond (not b) (x ∷ left id xs) (left id xs) ≡ x ∷ xs
      go true more e = absurd cc
      go false more e = ap (λ l. x ∷ l) (more e)

  -- an id that is taken out any number of times is gone
  pub wipes : (id : ℕ) (xs n : List A) → (n ≡ [] → left id xs ≡ xs) → without_all (map row_of xs) (map (λ _. pos id) n) ≡ map row_of (left id xs)
  wipes id xs [] none = ap (map row_of) (sym (none refl))
  wipes id xs (m ∷ n) none = ap (λ l. without_all l (map (λ _. pos id) n)) (without_stored id xs) ∙ wiped id (left id xs) n (absent id xs)

pub ids_one : {Y : Type 0} (id : ℕ) (more : Row) (n : List Y) → ids_of (map (λ _. Int (pos id) ∷ more) n) ≡ map (λ _. pos id) n
ids_one id more [] = refl
ids_one id more (m ∷ n) = ap (λ l. pos id ∷ l) (ids_one id more n)
