-- A tree is read as the values whose rows stand in it.
use base.Stored.{Gv, gnil, gnum, gcons}
use Rattle.std.proofs.Common.{◌≡◌, ◌+◌, ◌<◌, zero, suc, ℕ, pos, Bool, true, false, cond, List, [], ◌∷◌, map, length, Option, Some, None, get_or, Ordering, Less, Equal, Greater, is_lt, is_eq, refl, sym, ap, ap₂, subst, ◌∙◌, arith, IsPermutation, IsSorted}
use Rattle.std.specs.List.{AllByRecursion, IsDistinct}
use Rattle.std.specs.Option.{option_and_then, option_map}
use Rattle.std.specs.Cmp.{IsTotalOrder}
use Rattle.std.specs.Ordering.{ordering_reverse}
use Rattle.std.proofs.lemmas.Bool.{and_from, and_parts, eq-eqb, eqb-true}
use Rattle.std.proofs.lemmas.Cmp.{on_total}
use Rattle.std.proofs.lemmas.Bool.Decides.{nat_tests}
use Rattle.std.proofs.lemmas.Int.{ints}
use Rattle.std.specs.Ordering.{int_cmp}
use Rattle.std.proofs.lemmas.List.Sorted.{IsPermutation-sym}
use Rattle.std.proofs.lemmas.Map.Keys.{IsDistinct-IsPermutation}
use Rattle.sqlite_keyed.proofs.SortLemmas.{HasNoTies, sorted_is-sort_by}
use Rattle.sqlite_schema.specs.contracts.schema.Schema.{the_row}
use Rattle.sqlite_schema.specs.declared.schema.Schema.{Schema}
use Rattle.sqlite_sql.specs.Ops.{is_null}
use Rattle.sqlite_trees.specs.Tree.{IsAscending, rowid}
use Rattle.sqlite_value.proofs.OrderLemmas.{value_cmp_total, value_cmp-Int}
use Rattle.sqlite_value.specs.declared.value.Value.TheVariants.{Int}
use Rattle.sqlite_value.specs.Order.{Row, value_cmp}
use Rattle.store_commits.specs.Kept.{tree_row}
use Rattle.store_reads.specs.Back.{IsOfOurs}
use Rattle.store_reads.specs.Readable.{IsGivenBack, IsReadable, cell_in, shown_row}
use Rattle.store_reads.proofs.BackLemmas.{kept_cells, null_is, with_key}
use Rattle.store_reads.proofs.GivenBack.{all_given_back}
use Rattle.store_rows.specs.Reads.{IsReadBack}
use Rattle.store_rows.specs.declared.cell.Cell.{Cell}
use Rattle.store_rows.proofs.ReadingLemmas.{Reads}
use Rattle.store_loads.specs.Told.{in_order, is_schema, same_code, tree_cells, values_in}

-- ---- one schema

code_same : (a b : Gv) → same_code a b ≡ true → a ≡ b
code_same gnil gnil h = refl
code_same gnil (gnum n) h = absurd cc
code_same gnil (gcons c d) h = absurd cc
code_same (gnum m) gnil h = absurd cc
code_same (gnum m) (gnum n) h = ap gnum (eqb-true m n h)
code_same (gnum m) (gcons c d) h = absurd cc
code_same (gcons a b) gnil h = absurd cc
code_same (gcons a b) (gnum n) h = absurd cc
code_same (gcons a b) (gcons c d) h = let r = and_parts _ _ h in ap₂ gcons (code_same a c r.0) (code_same b d r.1)

same_itself : (a : Gv) → same_code a a ≡ true
same_itself gnil = refl
same_itself (gnum n) = eq-eqb n n refl
same_itself (gcons a b) = and_from _ _ (same_itself a) (same_itself b)

pub schema_is : (a b : Schema) → is_schema a b ≡ true → a ≡ b
unfolding is_schema
schema_is a b h = the_row.coded.inj a b (code_same _ _ h)

pub is_itself : (a b : Schema) → a ≡ b → is_schema a b ≡ true
unfolding is_schema
is_itself a b e = subst (λ (s : Schema). same_code (the_row.coded.code a) (the_row.coded.code s) ≡ true) e (same_itself (the_row.coded.code a))

-- ---- rows

keyed : (cells : List Cell) → with_key (shown_row cells) ≡ tree_row cells
keyed [] = refl
keyed (c ∷ cs) = refl

-- the cells of a stored row
pub cells_again : (cells : List Cell) → AllByRecursion IsGivenBack cells → tree_cells (tree_row cells) ≡ cells
cells_again [] h = refl
cells_again (c ∷ cs) h = all_given_back (c ∷ cs) h

-- a row with the cells of a stored row is that row
pub row_again : (cells : List Cell) (row : Row) → AllByRecursion IsOfOurs cells → (cells ≡ [] → ⊥) → cells ≡ tree_cells row → (row ≡ tree_row cells) × AllByRecursion IsGivenBack cells
row_again cells [] ours some e = absurd (some e)
row_again cells (id ∷ []) ours some e = absurd (some e)
row_again cells (id ∷ key ∷ rest) ours some e = go (is_null key) refl e
  where
    go : (b : Bool) → is_null key ≡ b → cells ≡ cond b (cell_in id ∷ map cell_in rest) [] → ((id ∷ key ∷ rest) ≡ tree_row cells) × AllByRecursion IsGivenBack cells
    go true null same =
        let kept = kept_cells cells (id ∷ rest) ours same in
        (ap (λ k. id ∷ k ∷ rest) (null_is key null) ∙ ap with_key kept.0 ∙ keyed cells, kept.1)
    go false other same = absurd (some same)

pub some_is : {X : Type 0} {a b : X} → ◌≡◌ {A = Option X} (Some a) (Some b) → a ≡ b
some_is e = cc

module _ {T : Type 0} (cells : T → List Cell) (Typed : T → Type 0) (read : List Cell → Option T) (reads : Reads cells Typed read) (ours : (x : T) → AllByRecursion IsOfOurs (cells x)) (some : (x : T) → cells x ≡ [] → ⊥) where
  pub value_is : (row : Row) (x : T) → read (tree_cells row) ≡ Some x → (row ≡ tree_row (cells x)) × IsReadable cells Typed x
  value_is row x h =
      let back = found (read (tree_cells row)) h (reads (tree_cells row)) in
      let again = row_again (cells x) row (ours x) (some x) back.0 in
      (again.0, (back.1, again.1))
    where
      found : (o : Option T) → o ≡ Some x → IsReadBack cells Typed (tree_cells row) o → (cells x ≡ tree_cells row) × Typed x
      found None e r = absurd (cc (e))
      found (Some y) e r = subst (λ z. (cells z ≡ tree_cells row) × Typed z) (some_is e) r.is

  pub value_again : (x : T) → IsReadable cells Typed x → read (tree_cells (tree_row (cells x))) ≡ Some x
  value_again x good = ap read (cells_again (cells x) good.1) ∙ (reads (cells x)).only x good.0 refl

  pub values_are : (rows : List Row) (xs : List T) → values_in read rows ≡ Some xs → (rows ≡ map (λ x. tree_row (cells x)) xs) × AllByRecursion (IsReadable cells Typed) xs
  values_are [] xs h = let e : [] ≡ xs = some_is h in subst (λ ys. ([] ≡ map (λ x. tree_row (cells x)) ys) × AllByRecursion (IsReadable cells Typed) ys) e (refl, tt)
  values_are (row ∷ rows) xs h = go (read (tree_cells row)) (values_in read rows) refl refl h (values_are rows)
    where
      go : (o : Option T) (os : Option (List T)) → read (tree_cells row) ≡ o → values_in read rows ≡ os → option_and_then (λ x. option_map (λ ys. x ∷ ys) os) o ≡ Some xs
          → ((ys : List T) → values_in read rows ≡ Some ys → (rows ≡ map (λ x. tree_row (cells x)) ys) × AllByRecursion (IsReadable cells Typed) ys)
          → ((row ∷ rows) ≡ map (λ x. tree_row (cells x)) xs) × AllByRecursion (IsReadable cells Typed) xs
      go None os p q e more = absurd (cc (e))
      go (Some y) None p q e more = absurd (cc (e))
      go (Some y) (Some ys) p q e more =
          let one = value_is row y p in
          let others = more ys q in
          subst (λ (zs : List T). ((row ∷ rows) ≡ map (λ x. tree_row (cells x)) zs) × AllByRecursion (IsReadable cells Typed) zs) (some_is e) (ap₂ ◌∷◌ one.0 others.0, (one.1, others.1))

  pub values_again : (xs : List T) → AllByRecursion (IsReadable cells Typed) xs → values_in read (map (λ x. tree_row (cells x)) xs) ≡ Some xs
  values_again [] good = refl
  values_again (x ∷ xs) good = rw (value_again x good.0, values_again xs good.1) refl

-- ---- order

abbrev rowid_cmp : Row → Row → Ordering
rowid_cmp a b = value_cmp (rowid a) (rowid b)

rowids_total : IsTotalOrder rowid_cmp
rowids_total = on_total rowid value_cmp_total

all_apart : (row : Row) (rows : List Row) → AllByRecursion (λ b. rowid_cmp row b ≡ Less) rows → AllByRecursion (λ b. is_eq (rowid_cmp row b) ≡ false) rows
all_apart row [] h = tt
all_apart row (r ∷ rs) h = (ap is_eq h.0, all_apart row rs h.1)

distinct : (rows : List Row) → IsAscending (λ a b. rowid_cmp a b ≡ Less) rows → IsDistinct (λ a b. is_eq (rowid_cmp a b)) rows
unfolding IsDistinct
distinct [] up = tt
distinct (r ∷ rs) up = (all_apart r rs up.0, distinct rs up.1)

no_ties : (rows : List Row) → IsDistinct (λ a b. is_eq (rowid_cmp a b)) rows → HasNoTies rowid_cmp rowids_total rows
unfolding IsDistinct
no_ties [] h = tt
no_ties (r ∷ rs) h = (h.0, no_ties rs h.1)

turned_eq : (o : Ordering) → is_eq (ordering_reverse o) ≡ is_eq o
turned_eq Less = refl
turned_eq Equal = refl
turned_eq Greater = refl

turned_lt : (o : Ordering) → o ≡ Less → is_lt (ordering_reverse o) ≡ false
turned_lt o e = ap (λ p. is_lt (ordering_reverse p)) e

next_after : (rows : List Row) → IsAscending (λ a b. rowid_cmp a b ≡ Less) rows → (k : ℕ) (d : Row) → k + 1 < length rows → rowid_cmp (get_or rows k d) (get_or rows (k + 1) d) ≡ Less
next_after [] up k d less = absurd (omega (arith, less))
next_after (r ∷ []) up k d less = absurd (omega (arith, less))
next_after (r ∷ s ∷ rs) up zero d less = up.0.0
next_after (r ∷ s ∷ rs) up (suc k) d less =
    let on : suc (k + 1) ≡ suc k + 1 = omega arith in
    subst (λ n. rowid_cmp (get_or (s ∷ rs) k d) (get_or (r ∷ s ∷ rs) n d) ≡ Less) on (next_after (s ∷ rs) up.1 k d (omega (arith, less)))

in_sequence : (rows : List Row) → IsAscending (λ a b. rowid_cmp a b ≡ Less) rows → IsSorted rowid_cmp rows
in_sequence rows up = λ k d low high.
    ap is_lt (rowids_total.antisymm (get_or rows (k + 1) d) (get_or rows k d)) ∙ turned_lt _ (next_after rows up k d high)

-- rows whose ids rise are those that stand in some order
pub in_order_is : (rows tree : List Row) → IsAscending (λ a b. rowid_cmp a b ≡ Less) rows → IsPermutation rows tree → in_order tree ≡ rows
in_order_is rows tree up same =
    let apart = IsDistinct-IsPermutation (λ a b. is_eq (rowid_cmp a b)) (λ a b. ap is_eq (rowids_total.antisymm a b) ∙ turned_eq (rowid_cmp b a)) rows tree same (distinct rows up) in
    sym (sorted_is-sort_by rowid_cmp rowids_total tree rows (no_ties tree apart) (IsPermutation-sym rows tree same) (in_sequence rows up))

below_less : (a b : ℕ) → a < b → int_cmp (pos a) (pos b) ≡ Less
below_less a b h = grind (arith, ints, nat_tests)

-- rows of rising ids have rising rowids
pub rows_rise : {T : Type 0} (id : T → ℕ) (row : T → Row) → ((x : T) → rowid (row x) ≡ Int (pos (id x))) → (xs : List T) → IsAscending (λ a b. id a < id b) xs → IsAscending (λ a b. rowid_cmp a b ≡ Less) (map row xs)
rows_rise {T} id row ids [] up = tt
rows_rise {T} id row ids (x ∷ xs) up = (all_above xs up.0, rows_rise id row ids xs up.1)
  where
    below : (y : T) → id x < id y → rowid_cmp (row x) (row y) ≡ Less
    below y less = ap₂ value_cmp (ids x) (ids y) ∙ value_cmp-Int (pos (id x)) (pos (id y)) ∙ below_less (id x) (id y) less

    all_above : (ys : List T) → AllByRecursion (λ y. id x < id y) ys → AllByRecursion (λ b. rowid_cmp (row x) b ≡ Less) (map row ys)
    all_above [] h = tt
    all_above (y ∷ ys) h = (below y h.0, all_above ys h.1)
