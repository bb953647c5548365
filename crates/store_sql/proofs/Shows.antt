-- What a SELECT of all rows shows of a table: in the order of their ids, whatever the order in which they stand.
use Rattle.std.proofs.Common.{◌≡◌, ◌<◌, ℕ, pos, List, [], ◌∷◌, map, flat_map, Less, refl, sym, ap, ap₂, subst, subst₂, ◌∙◌, arith, IsPermutation}
use Rattle.std.proofs.lemmas.Int.{ints}
use Rattle.std.proofs.lemmas.Bool.Decides.{nat_tests}
use Rattle.std.proofs.lemmas.List.Sorted.{IsPermutation-map, IsPermutation-trans}
use Rattle.std.specs.List.{AllByRecursion}
use Rattle.sqlite_value.specs.declared.value.Value.TheVariants.{Null, Int}
use Rattle.sqlite_value.specs.Order.{Row, value_cmp}
use Rattle.sqlite_value.proofs.OrderLemmas.{value_cmp-Int}
use Rattle.sqlite_schema.specs.declared.command.Command.TheVariants.{Select}
use Rattle.sqlite_sql.specs.Term.{Term, eval_all}
use Rattle.sqlite_sql.specs.Query.{Query, IsAnswer, output, output_cmp, page, Output}
use Rattle.sqlite_exec.proofs.RunLemmas.{none_given}
use Rattle.sqlite_sql.proofs.QueryLemmas.{output_cmp_total}
use Rattle.sqlite_keyed.proofs.SortLemmas.{sorted_unique}
use Rattle.sqlite_trees.specs.Tree.{IsAscending}
use Rattle.sqlite.specs.State.{State, Shown}
use Rattle.sqlite.proofs.Callers.{reads_as}
use Rattle.store_sql.specs.Commands.{all_by_id}
use Rattle.store_sql.specs.Means.{Means}
use Rattle.store_sql.specs.Schema.{schema_1}
use Rattle.store_sql.proofs.Lists.{row_of}

-- what such a query answers
answers : (tree : ℕ) (columns : List Term) (text : List ℕ) (names : List (List ℕ)) (old new : State) (rows : List Row) → Means text (Select (record { lets = []; body = all_by_id tree columns }) names)
    → old.now.schema ≡ schema_1 → Shown text [] old new rows → IsAnswer (all_by_id tree columns) old.now.trees [] rows
answers tree columns text names old new rows means has h =
    let got = reads_as text [] old new schema_1 has _ means.command_is means.plain means.no_listing rows h in
    subst (λ trees. IsAnswer (all_by_id tree columns) trees [] rows) (none_given old.now.trees) (got.answer Null)

seconds : (tree : ℕ) (columns : List Term) (rows : List Row)
    → map (λ (p : Output). p.1) (map (output (all_by_id tree columns)) (flat_map (λ r. ([] ∷ r ∷ []) ∷ []) rows)) ≡ map (λ r. eval_all columns ([] ∷ r ∷ [])) rows
seconds tree columns [] = refl
seconds tree columns (r ∷ rs) = ap (λ l. eval_all columns ([] ∷ r ∷ []) ∷ l) (seconds tree columns rs)

-- whatever rows stand there, all are shown, in some order
pub shows_each : (tree : ℕ) (columns : List Term) (text : List ℕ) (names : List (List ℕ)) (old new : State) (rows : List Row) → Means text (Select (record { lets = []; body = all_by_id tree columns }) names)
    → old.now.schema ≡ schema_1 → Shown text [] old new rows → IsPermutation (map (λ r. eval_all columns ([] ∷ r ∷ [])) (old.now.trees tree)) rows
shows_each tree columns text names old new rows means has h =
    let a = answers tree columns text names old new rows means has h in
    let kept : a.kept ≡ map (output (all_by_id tree columns)) (flat_map (λ r. ([] ∷ r ∷ []) ∷ []) (old.now.trees tree)) = a.distinct ∙ ap (map (output (all_by_id tree columns))) a.grouped in
    let first = ap (map (λ (p : Output). p.1)) kept ∙ seconds tree columns (old.now.trees tree) in
    subst₂ IsPermutation first (sym a.shown) (IsPermutation-map (λ (p : Output). p.1) a.kept a.ordered a.same)

module _ (tree : ℕ) (columns : List Term) {A : Type 0} (key : A → ℕ) (rest shown : A → Row)
    (shows : (x : A) → eval_all columns ([] ∷ row_of key rest x ∷ []) ≡ shown x) where
  abbrev query : Query
  query = all_by_id tree columns

  -- what a row is sorted by, and what is shown of it
  abbrev out : A → Output
  out x = (Int (pos (key x)) ∷ [], shown x)

  outs : (xs : List A) → map (output query) (flat_map (λ r. ([] ∷ r ∷ []) ∷ []) (map (row_of key rest) xs)) ≡ map out xs
  outs [] = refl
  outs (x ∷ xs) = ap₂ (λ r l. (Int (pos (key x)) ∷ [], r) ∷ l) (shows x) (outs xs)

  shown_all : (xs : List A) → map (λ (p : Output). p.1) (map out xs) ≡ map shown xs
  shown_all [] = refl
  shown_all (x ∷ xs) = ap (λ l. shown x ∷ l) (shown_all xs)

  comes_before : (x y : A) → key x < key y → output_cmp query (out x) (out y) ≡ Less
  comes_before x y h = let one : value_cmp (Int (pos (key x))) (Int (pos (key y))) ≡ Less = value_cmp-Int (pos (key x)) (pos (key y)) ∙ grind (arith, ints, nat_tests) in rw one

  all_after : (x : A) (xs : List A) → AllByRecursion (λ y. key x < key y) xs → AllByRecursion (λ b. output_cmp query (out x) b ≡ Less) (map out xs)
  all_after x [] h = tt
  all_after x (y ∷ ys) h = (comes_before x y h.0, all_after x ys h.1)

  rises : (xs : List A) → IsAscending (λ a b. key a < key b) xs → IsAscending (λ a b. output_cmp query a b ≡ Less) (map out xs)
  rises [] h = tt
  rises (x ∷ xs) h = (all_after x xs h.0, rises xs h.1)

  -- where the ids rise, rows that stand in some order are shown in that one
  pub shows_all : (text : List ℕ) (names : List (List ℕ)) (old new : State) (all us : List A) (rows : List Row) → Means text (Select (record { lets = []; body = all_by_id tree columns }) names)
      → old.now.schema ≡ schema_1 → old.now.trees tree ≡ map (row_of key rest) us → IsPermutation all us → IsAscending (λ a b. key a < key b) all → Shown text [] old new rows → rows ≡ map shown all
  shows_all text names old new all us rows means has held same up h =
      let a = answers tree columns text names old new rows means has h in
      let staged : a.staged ≡ flat_map (λ r. ([] ∷ r ∷ []) ∷ []) (map (row_of key rest) us) = a.grouped ∙ ap (flat_map (λ r. ([] ∷ r ∷ []) ∷ [])) held in
      let kept : a.kept ≡ map out us = a.distinct ∙ ap (map (output query)) staged ∙ outs us in
      let moved = IsPermutation-trans _ _ _ (IsPermutation-map out all us same) (subst (λ k. IsPermutation k a.ordered) kept a.same) in
      let ordered : a.ordered ≡ map out all = sorted_unique (output_cmp query) (output_cmp_total query) _ _ (rises all up) moved a.sorted in
      a.shown ∙ ap (λ xs. page query [] (map (λ (p : Output). p.1) xs)) ordered ∙ shown_all all
