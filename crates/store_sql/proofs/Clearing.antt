-- What is left once the ids of all rows are taken out: nothing.
use Rattle.std.proofs.Common.{◌≡◌, ◌⊎◌, zero, suc, ℕ, ℤ, pos, List, [], ◌∷◌, map, filter, flat_map, Bool, true, false, not, cond, inl, inr, refl, sym, ap, subst, ◌∙◌, arith, IsPermutation}
use Rattle.std.specs.Prelude.{Contains}
use Rattle.std.proofs.lemmas.Bool.{true≢false}
use Rattle.std.proofs.lemmas.Int.{ints}
use Rattle.std.proofs.lemmas.Bool.Decides.{nat_tests}
use Rattle.std.proofs.lemmas.List.Sorted.{Contains-permutation}
use Rattle.std.specs.Ordering.{is_eq}
use Rattle.sqlite_value.specs.declared.value.Value.TheVariants.{Int}
use Rattle.sqlite_value.specs.Order.{Row, value_cmp}
use Rattle.sqlite_value.proofs.OrderLemmas.{value_cmp-Int}
use Rattle.sqlite_sql.specs.Query.{Output}
use Rattle.sqlite_trees.specs.Tree.{has_rowid, rowid, without_rowid}
use Rattle.sqlite_rules.specs.Edit.{id_in, without_all}
use Rattle.sqlite_rules.specs.Calls.{ids_of}
use Rattle.sqlite_sql.specs.Term.{col}
use Rattle.store_sql.proofs.Lists.{row_of, hit, out_of}

not_there : {T : Type 0} (x : T) → Contains [] x → ⊥
not_there x (k, lt, is) = omega arith

first_or_later : {T : Type 0} (x : T) (xs : List T) (a : T) → Contains (x ∷ xs) a → (a ≡ x) ⊎ Contains xs a
first_or_later x xs a (zero, lt, is) = inl (sym is)
first_or_later x xs a (suc k, lt, is) = inr (k, omega arith, is)

later : {T : Type 0} (x : T) (xs : List T) (a : T) → Contains xs a → Contains (x ∷ xs) a
later x xs a (k, lt, is) = (suc k, omega arith, is)

there_map : {A B : Type 0} (f : A → B) (xs : List A) (a : A) → Contains xs a → Contains (map f xs) (f a)
there_map f [] a m = absurd (not_there a m)
there_map f (x ∷ xs) a m = elim (first_or_later x xs a m) [ inl e ↦ (0, omega arith, ap f (sym e)) | inr r ↦ later (f x) (map f xs) (f a) (there_map f xs a r) ]

-- an element of the images is the image of an element
from_map : {A B : Type 0} (f : A → B) (xs : List A) (b : B) → Contains (map f xs) b → (a : A) × Contains xs a × (f a ≡ b)
from_map f [] b m = absurd (not_there b m)
from_map f (x ∷ xs) b m = elim (first_or_later (f x) (map f xs) b m) [
  | inl e ↦ (x, (0, omega arith, refl), sym e)
  | inr r ↦ (let it = from_map f xs b r in (it.0, later x xs it.0 it.1, it.2))
]

there_filter : {T : Type 0} (p : T → Bool) (xs : List T) (a : T) → Contains (filter p xs) a → Contains xs a × (p a ≡ true)
there_filter p [] a m = absurd (not_there a m)
there_filter {T} p (x ∷ xs) a m = go (p x) refl m (λ r. there_filter p xs a r)
  where
    go : (b : Bool) → p x ≡ b → Contains (cond b (x ∷ filter p xs) (filter p xs)) a → (Contains (filter p xs) a → Contains xs a × (p a ≡ true)) → Contains (x ∷ xs) a × (p a ≡ true)
    go true is m among = elim (first_or_later x (filter p xs) a m) [
      | inl e ↦ ((0, omega arith, sym e), ap p e ∙ is)
      | inr r ↦ (let it = among r in (later x xs a it.0, it.1))
    ]
    go false is m among = let it = among m in (later x xs a it.0, it.1)

-- what is left has none of the ids that were taken out
left_out : (ids : List ℤ) (rows : List Row) (r : Row) → Contains (without_all rows ids) r → Contains rows r × ((id : ℤ) → Contains ids id → not (has_rowid id r) ≡ true)
left_out [] rows r m = (m, λ id none. absurd (not_there id none))
left_out (k ∷ ks) rows r m =
    let more = left_out ks (without_rowid k rows) r m in
    let kept = there_filter (λ x. not (has_rowid k x)) rows r more.0 in
    (kept.0, λ id there. elim (first_or_later k ks id there) [ inl e ↦ subst (λ n. not (has_rowid n r) ≡ true) (sym e) kept.1 | inr r' ↦ more.1 id r' ])

all_gone : {T : Type 0} (xs : List T) → ((a : T) → Contains xs a → ⊥) → xs ≡ []
all_gone [] h = refl
all_gone (x ∷ xs) h = absurd (h x (0, omega arith, refl))

own_id : (id : ℕ) → is_eq (value_cmp (Int (pos id)) (Int (pos id))) ≡ true
own_id id = ap is_eq (value_cmp-Int (pos id) (pos id)) ∙ grind (arith, ints, nat_tests)

module _ {A : Type 0} (key : A → ℕ) (rest : A → Row) where
  abbrev pub shown_id : A → Output
  shown_id x = hit (Int (pos (key x)) ∷ [])

  -- the ids of all rows, in whatever order they are found
  pub clears : (all : List A) (ordered : List Output) → IsPermutation (map shown_id all) ordered → without_all (map (row_of key rest) all) (ids_of (map (λ (o : Output). o.1) ordered)) ≡ []
  clears all ordered same = all_gone _ (λ r m.
      let out = left_out (ids_of (map (λ (o : Output). o.1) ordered)) (map (row_of key rest) all) r m in
      let it = from_map (row_of key rest) all r out.0 in
      let shown = Contains-permutation _ ordered (shown_id it.0) same (there_map shown_id all it.0 it.1) in
      let id : Contains (ids_of (map (λ (o : Output). o.1) ordered)) (pos (key it.0)) =
      there_map (λ (r : Row). id_in (rowid r)) _ (Int (pos (key it.0)) ∷ []) (there_map (λ (o : Output). o.1) ordered (shown_id it.0) shown) in
      let kept = subst (λ x. not (has_rowid (pos (key it.0)) x) ≡ true) (sym it.2) (out.1 (pos (key it.0)) id) in
      true≢false (sym kept ∙ ap not (own_id (key it.0))))

  -- a search for all rows shows their ids
  pub shows_ids : (params : Row) (all : List A) → map (out_of (col 1 0 ∷ [])) (flat_map (λ r. ((params ∷ r ∷ []) ∷ [])) (map (row_of key rest) all)) ≡ map shown_id all
  shows_ids params [] = refl
  shows_ids params (x ∷ xs) = ap (λ l. shown_id x ∷ l) (shows_ids params xs)
