-- What an INSERT of one row, a DELETE and an UPDATE by an id make of the trees: of any table that is as plain as ours.
use Rattle.std.proofs.Common.{◌≡◌, ◌⊎◌, ◌/◌, inl, inr, ℕ, pos, List, [], ◌∷◌, ◌++◌, map, drop, flat_map, length, unwrap_or, slice_get, true, false, not, Some, Ok, Err, Result, refl, sym, ap, subst, ◌∙◌, arith, IsPermutation}
use Rattle.std.specs.List.{list_all}
use Rattle.std.proofs.Common.{Ordering, Less, Equal, Greater}
use Rattle.std.specs.Ordering.{match_ordering}
use Rattle.std.proofs.lemmas.Int.{ints}
use Rattle.std.proofs.lemmas.Bool.Decides.{nat_tests}
use Rattle.sqlite_value.proofs.OrderLemmas.{value_cmp-Int}
use Rattle.std.proofs.lemmas.Bool.{true≢false, and_parts}
use Rattle.std.proofs.Common.{ap₂, subst₂}
use Rattle.std.specs.Ordering.{is_eq}
use Rattle.sqlite_value.specs.declared.value.Value.TheVariants.{Null, Int}
use Rattle.sqlite_value.specs.declared.keys.Order.{Order}
use Rattle.sqlite_value.specs.Order.{Row, value_cmp}
use Rattle.sqlite_schema.specs.declared.schema.Column.{Column}
use Rattle.sqlite_schema.specs.declared.schema.Table.{Table}
use Rattle.sqlite_schema.specs.declared.schema.Schema.{Schema}
use Rattle.sqlite_schema.specs.declared.schema.Keys.{Keys}
use Rattle.sqlite_schema.specs.declared.command.Command.TheVariants.{Insert, Delete, Update}
use Rattle.sqlite_schema.specs.declared.command.Source.TheVariants.{Values}
use Rattle.sqlite_sql.specs.Ops.{is_null}
use Rattle.sqlite_sql.specs.Term.{Term, col, holds, eval_all}
use Rattle.sqlite_sql.specs.Query.{IsAnswer, output, page, Output}
use Rattle.sqlite_trees.specs.Tree.{Trees, rowid, put_row}
use Rattle.sqlite_rules.specs.Cast.{cast_row}
use Rattle.sqlite_rules.specs.Edit.{Edit, edit_of, edited, without_all, put_all, are_fresh, is_taken, left_by, numbered, with_rowid}
use Rattle.sqlite_rules.specs.Calls.{ids_of}
use Rattle.sqlite_rules.specs.Action.{works, Work}
use Rattle.sqlite_rules.specs.declared.error.Rowids.TheVariants.{Chosen, Given}
use Rattle.sqlite_exec.proofs.RunLemmas.{none_given}
use Rattle.sqlite_rules.specs.Edit.{Applies, taken_by}
use Rattle.sqlite_rules.specs.Action as action
use Rattle.sqlite.specs.Does.{Tally}
use Rattle.sqlite.specs.Rows.{Written}
use Rattle.sqlite.specs.Effect.{Database, value_rows}
use Rattle.sqlite.specs.Listing.{understood}
use Rattle.store_sql.specs.Ran.{HasRun}
use Rattle.store_sql.specs.Standing.{AreOthersKept, SetsRows}
use Rattle.store_sql.proofs.Running.{wrote_as}
use Rattle.sqlite.proofs.Callers.{IsPlain, command_of, one_step}
use Rattle.store_sql.specs.Commands.{one_by_id, replaced_by_id, all_ids}
use Rattle.store_sql.proofs.Clearing.{clears, shown_id, shows_ids}
use Rattle.store_sql.proofs.Lists.{row_of, found, left, kept_if, hits, copies, map_one, hit, out_of, ids_one, wipes, none_found}

pub same_value : {B E : Type 0} {a b : B} → ◌≡◌ {A = Result B E} (Ok a) (Ok b) → a ≡ b
same_value e = cc

-- a part that gave a value did not stop on the way
pub went : {B E R : Type 0} {b : B} {Stops : E → Type 0} → ((stop : E) × Stops stop × (Ok b ≡ Err stop)) ⊎ R → R
went (inl stopped) = absurd (let e = stopped.2 in cc)
went (inr on) = on

-- a table whose key is its first column, and of which nothing else is said
abbrev pub plain_table : List ℕ → ℕ → List Column → List (List ℕ) → List Order → Table
plain_table name tree columns uniques orders = record {
  name = name;
  tree = tree;
  columns = columns;
  key = Some 0;
  primary = 0 ∷ [];
  uniques = uniques;
  orders = orders;
  checks = [];
  references = [];
  computed = [];
  stamps = record { places = []; terms = []; formats = [] };
  is_counted = false;
}

given_rowid : (rows : List Row) (row : Row) → is_null (rowid row) ≡ false → with_rowid Chosen rows row ≡ row
given_rowid rows row some = rw some refl

numbered_given : (rows news : List Row) → numbered Given rows news ≡ news
numbered_given rows [] = refl
numbered_given rows (r ∷ rs) = ap (λ l. r ∷ l) (numbered_given (put_row r rows) rs)

same_self : (id : ℕ) → is_eq (value_cmp (Int (pos id)) (Int (pos id))) ≡ true
same_self id = ap is_eq (value_cmp-Int (pos id) (pos id)) ∙ grind (arith, ints, nat_tests)

-- what was put is there
put_taken : (id : ℕ) (more : Row) (rows : List Row) → is_taken (put_row (Int (pos id) ∷ more) rows) (Int (pos id) ∷ more) ≡ true
put_taken id more [] = rw (same_self id) refl
put_taken id more (r ∷ rs) = go (value_cmp (rowid r) (Int (pos id))) refl (put_taken id more rs)
  where
    go : (o : Ordering) → value_cmp (rowid r) (Int (pos id)) ≡ o → is_taken (put_row (Int (pos id) ∷ more) rs) (Int (pos id) ∷ more) ≡ true
        → is_taken (match_ordering o (r ∷ put_row (Int (pos id) ∷ more) rs) ((Int (pos id) ∷ more) ∷ rs) ((Int (pos id) ∷ more) ∷ r ∷ rs)) (Int (pos id) ∷ more) ≡ true
    go Less e more' = rw (e, more') refl
    go Equal e more' = rw (same_self id) refl
    go Greater e more' = rw (same_self id) refl

module _ (schema : Schema) (calm : (keys : Keys) (tree : ℕ) (olds news : List Row) → works schema keys 0 tree olds news ≡ [])
    (name : List ℕ) (tree : ℕ) (columns : List Column) (uniques : List (List ℕ)) (orders : List Order)
    (at : ℕ) (is : slice_get schema.tables at ≡ Some (plain_table name tree columns uniques orders))
    (text : List ℕ) (params : Row) (old new : Database) (has : old.schema ≡ schema) (plain : IsPlain (understood schema text)) where
  abbrev table : Table
  table = plain_table name tree columns uniques orders

  applied_by : (keys : Keys) (db next : Trees) (edit : Edit) → action.Writes schema keys db edit (Ok next) → Applies schema keys db edit next
  applied_by keys db next edit h = one_step schema keys db next edit (calm keys edit.table.tree (taken_by db edit) edit.news) h

  abbrev pub IsKept : Row → Type 0
  IsKept row = cast_row table row ≡ row

  pub inserts : (terms : List Term) (width count : ℕ) (row : Row) → command_of (understood schema text) ≡ Insert at (Values terms width)
      → value_rows (params ++ []) width (length terms / width) terms ≡ row ∷ [] → cast_row table (drop 0 row) ≡ row → is_null (rowid row) ≡ false
      → HasRun text params count old new → SetsRows schema tree (put_row row (old.trees tree)) old new
  inserts terms width count row cmd given kept some h =
      let db = old.trees in
      let command = Insert at (Values terms width) in
      let w = wrote_as text params count old new schema command has cmd plain tt h in
      let done = went (rw is at w.changed) in
      let now = ap (λ (p : Tally × Database). p.1) (same_value (went (went done.2).2).2) in
      let source = went done.1 in
      let rows : source.0 ≡ row ∷ [] = source.1.1 ∙ given in
      let written = went (went source.2).2 in
      let counted = went written.2 in
      let trees : done.0.trees ≡ written.0 = ap (λ (it : Written). it.trees) (same_value counted.2) ∙ same_value counted.1 in
      let edit = edit_of db table [] Chosen 0 source.0 in
      let applied = applied_by w.mode.keys db written.0 edit written.1 in
      let one : cast_row table (drop 0 row) ≡ row = kept in
      let made : edited db edit ≡ put_row row (db tree) =
      ap (λ all. edited db (edit_of db table [] Chosen 0 all)) rows ∙ ap (λ r. put_row (with_rowid Chosen (db tree) r) (db tree)) one ∙ ap (λ r. put_row r (db tree)) (given_rowid (db tree) row some) in
      record {
        schema_is = ap (λ (d : Database). d.schema) now;
        rows_are = ap (λ (d : Database). d.trees tree) now ∙ ap (λ (t : Trees). t tree) trees ∙ applied.rows ∙ made;
        others = subst (λ t. AreOthersKept schema tree db t) (sym (ap (λ (d : Database). d.trees) now ∙ trees)) applied.tables;
      }

  module _ {A : Type 0} (key : A → ℕ) (rest : A → Row) (all : List A) (stood : old.trees tree ≡ map (row_of key rest) all) where
    -- a DELETE of all rows leaves none
    pub empties : (count : ℕ) → command_of (understood schema text) ≡ Delete at (record { lets = []; body = all_ids tree })
        → HasRun text params count old new → SetsRows schema tree [] old new
    empties count cmd h =
        let db = old.trees in
        let command = Delete at (record { lets = []; body = all_ids tree }) in
        let w = wrote_as text params count old new schema command has cmd plain tt h in
        let done = went (rw is at w.changed) in
        let now = ap (λ (p : Tally × Database). p.1) (same_value (went (went done.2).2).2) in
        let asked = went done.1 in
        let a : IsAnswer (all_ids tree) db params asked.0 = subst (λ trees. IsAnswer (all_ids tree) trees params asked.0) (none_given db) (asked.1.answer Null) in
        let staged : a.staged ≡ flat_map (λ r. ((params ∷ r ∷ []) ∷ [])) (map (row_of key rest) all) = a.grouped ∙ ap (flat_map (λ r. ((params ∷ r ∷ []) ∷ []))) stood in
        let kept : a.kept ≡ map (shown_id key rest) all = a.distinct ∙ ap (map (out_of (col 1 0 ∷ []))) staged ∙ shows_ids key rest params all in
        let ids : ids_of asked.0 ≡ ids_of (map (λ (o : Output). o.1) a.ordered) = ap ids_of a.shown in
        let written = went asked.2 in
        let trees : done.0.trees ≡ written.0 = ap (λ (it : Written). it.trees) (same_value written.2) in
        let edit = edit_of db table (ids_of asked.0) Given 0 [] in
        let applied = applied_by w.mode.keys db written.0 edit written.1 in
        let made : edited db edit ≡ [] =
        ap (λ g. without_all (db tree) g) ids ∙ ap (λ l. without_all l (ids_of (map (λ (o : Output). o.1) a.ordered))) stood
        ∙ clears key rest all a.ordered (subst (λ k. IsPermutation k a.ordered) kept a.same) in
        record {
          schema_is = ap (λ (d : Database). d.schema) now;
          rows_are = ap (λ (d : Database). d.trees tree) now ∙ ap (λ (t : Trees). t tree) trees ∙ applied.rows ∙ made;
          others = subst (λ t. AreOthersKept schema tree db t) (sym (ap (λ (d : Database). d.trees) now ∙ trees)) applied.tables;
        }

  module _ {A : Type 0} (key : A → ℕ) (rest : A → Row) (all : List A) (stood : old.trees tree ≡ map (row_of key rest) all) (id : ℕ) (more : Row) (plainly : params ≡ Int (pos id) ∷ more) where
    -- what a search by the id answers, where each row that it finds shows the same
    answered : (project : List Term) (given : Row) (rows : List Row) → ((x : A) → key x ≡ id → eval_all project (params ∷ row_of key rest x ∷ []) ≡ given)
        → IsAnswer (record (one_by_id tree) { project = project }) old.trees params rows → rows ≡ map (λ _. given) (found key rest id all)
    answered project given rows shows a =
        let q = record (one_by_id tree) { project = project } in
        let staged : a.staged ≡ flat_map (λ r. kept_if key rest params (list_all (holds (params ∷ r ∷ [])) q.filter) r) (map (row_of key rest) all) =
        a.grouped ∙ ap (flat_map (λ r. kept_if key rest params (list_all (holds (params ∷ r ∷ [])) q.filter) r)) stood in
        let seen : map (output q) a.staged ≡ map (λ _. hit given) (found key rest id all) =
        ap (map (output q)) staged ∙ subst (λ ps. map (out_of project) (flat_map (λ r. kept_if key rest ps (list_all (holds (ps ∷ r ∷ [])) q.filter) r) (map (row_of key rest) all)) ≡ map (λ _. hit given) (found key rest id all))
        (sym plainly) (hits key rest id more project given (λ x e. subst (λ ps. eval_all project (ps ∷ row_of key rest x ∷ []) ≡ given) plainly (shows x e)) all) in
        let kept : a.kept ≡ map (λ _. hit given) (found key rest id all) = a.distinct ∙ seen in
        let ordered = copies (hit given) (found key rest id all) a.ordered (subst (λ k. IsPermutation k a.ordered) kept a.same) in
        a.shown ∙ ap (λ xs. page q params (map (λ (p : Output). p.1) xs)) ordered ∙ map_one (λ (p : Output). p.1) (hit given) (found key rest id all)

    pub deletes : (count : ℕ) → command_of (understood schema text) ≡ Delete at (record { lets = []; body = one_by_id tree })
        → HasRun text params count old new → SetsRows schema tree (map (row_of key rest) (left key rest id all)) old new
    deletes count cmd h =
        let db = old.trees in
        let command = Delete at (record { lets = []; body = one_by_id tree }) in
        let w = wrote_as text params count old new schema command has cmd plain tt h in
        let done = went (rw is at w.changed) in
        let now = ap (λ (p : Tally × Database). p.1) (same_value (went (went done.2).2).2) in
        let asked = went done.1 in
        let rows = answered (col 1 0 ∷ []) (Int (pos id) ∷ []) asked.0 (λ x e. ap (λ n. Int (pos n) ∷ []) e) (subst (λ trees. IsAnswer (one_by_id tree) trees params asked.0) (none_given db) (asked.1.answer Null)) in
        let ids : ids_of asked.0 ≡ map (λ _. pos id) (found key rest id all) = ap ids_of rows ∙ ids_one id [] (found key rest id all) in
        let written = went asked.2 in
        let trees : done.0.trees ≡ written.0 = ap (λ (it : Written). it.trees) (same_value written.2) in
        let edit = edit_of db table (ids_of asked.0) Given 0 [] in
        let applied = applied_by w.mode.keys db written.0 edit written.1 in
        let made : edited db edit ≡ map (row_of key rest) (left key rest id all) =
        ap (λ g. without_all (db tree) g) ids ∙ ap (λ l. without_all l (map (λ _. pos id) (found key rest id all))) stood ∙ wipes key rest id all (found key rest id all) (none_found key rest id all) in
        record {
          schema_is = ap (λ (d : Database). d.schema) now;
          rows_are = ap (λ (d : Database). d.trees tree) now ∙ ap (λ (t : Trees). t tree) trees ∙ applied.rows ∙ made;
          others = subst (λ t. AreOthersKept schema tree db t) (sym (ap (λ (d : Database). d.trees) now ∙ trees)) applied.tables;
        }

    -- An UPDATE by the id finds no row and does nothing, or it finds one, which goes, and the new row is put.
    pub replaces : (terms : List Term) (tail : Row) (count : ℕ) → command_of (understood schema text) ≡ Update at (record { lets = []; body = replaced_by_id tree terms })
        → ((x : A) → key x ≡ id → eval_all terms (params ∷ row_of key rest x ∷ []) ≡ Int (pos id) ∷ tail) → cast_row table (Int (pos id) ∷ tail) ≡ Int (pos id) ∷ tail
        → HasRun text params count old new
        → ((count ≡ 0) × (left key rest id all ≡ all) × SetsRows schema tree (map (row_of key rest) all) old new)
        ⊎ ((count ≡ 1) × SetsRows schema tree (put_row (Int (pos id) ∷ tail) (map (row_of key rest) (left key rest id all))) old new)
    replaces terms tail count cmd shows kept h =
        let db = old.trees in
        let given = Int (pos id) ∷ tail in
        let command = Update at (record { lets = []; body = replaced_by_id tree terms }) in
        let w = wrote_as text params count old new schema command has cmd plain tt h in
        let done = went (rw is at w.changed) in
        let both = same_value (went (went done.2).2).2 in
        let now = ap (λ (p : Tally × Database). p.1) both in
        let asked = went done.1 in
        let n = found key rest id all in
        let rows = answered (col 1 0 ∷ terms) (Int (pos id) ∷ given) asked.0 (λ x e. ap₂ (λ m r. Int (pos m) ∷ r) e (shows x e))
        (subst (λ trees. IsAnswer (replaced_by_id tree terms) trees params asked.0) (none_given db) (asked.1.answer Null)) in
        let ids : ids_of asked.0 ≡ map (λ _. pos id) n = ap ids_of rows ∙ ids_one id given n in
        let written = went asked.2 in
        let it = same_value written.2 in
        let trees : done.0.trees ≡ written.0 = ap (λ (x : Written). x.trees) it in
        let edit = edit_of db table (ids_of asked.0) Given 1 asked.0 in
        let applied = applied_by w.mode.keys db written.0 edit written.1 in
        let news : edit.news ≡ map (λ _. given) n =
        numbered_given (without_all (db tree) (ids_of asked.0)) (map (λ s. cast_row table (drop 1 s)) asked.0)
        ∙ ap (map (λ s. cast_row table (drop 1 s))) rows ∙ map_one (λ s. cast_row table (drop 1 s)) (Int (pos id) ∷ given) n ∙ ap (λ r. map (λ _. r) n) kept in
        let without : left_by db edit ≡ map (row_of key rest) (left key rest id all) =
        ap (λ g. without_all (db tree) g) ids ∙ ap (λ l. without_all l (map (λ _. pos id) n)) stood ∙ wipes key rest id all n (none_found key rest id all) in
        let made : edited db edit ≡ put_all (map (row_of key rest) (left key rest id all)) (map (λ _. given) n) = ap₂ put_all without news in
        let fresh : are_fresh (map (row_of key rest) (left key rest id all)) (map (λ _. given) n) ≡ true = subst₂ (λ l m. are_fresh l m ≡ true) without news applied.fresh in
        let counted : count ≡ length (map (λ _. given) n) =
        w.counted ∙ ap (λ (p : Tally × Database). unwrap_or p.0.rows 0) both ∙ ap (λ (x : Written). length x.rows) it ∙ ap length news in
        let leaves : (rows_after : List Row) → edited db edit ≡ rows_after → SetsRows schema tree rows_after old new = λ rows_after e. record {
          schema_is = ap (λ (d : Database). d.schema) now;
          rows_are = ap (λ (d : Database). d.trees tree) now ∙ ap (λ (t : Trees). t tree) trees ∙ applied.rows ∙ e;
          others = subst (λ t. AreOthersKept schema tree db t) (sym (ap (λ (d : Database). d.trees) now ∙ trees)) applied.tables;
        } in
        by_found n refl made fresh counted leaves
      where
        by_found : (m : List A) → found key rest id all ≡ m → {e : List Row} → e ≡ put_all (map (row_of key rest) (left key rest id all)) (map (λ _. Int (pos id) ∷ tail) m)
            → are_fresh (map (row_of key rest) (left key rest id all)) (map (λ _. Int (pos id) ∷ tail) m) ≡ true → count ≡ length (map (λ _. Int (pos id) ∷ tail) m)
            → ((rows_after : List Row) → e ≡ rows_after → SetsRows schema tree rows_after old new)
            → ((count ≡ 0) × (left key rest id all ≡ all) × SetsRows schema tree (map (row_of key rest) all) old new)
            ⊎ ((count ≡ 1) × SetsRows schema tree (put_row (Int (pos id) ∷ tail) (map (row_of key rest) (left key rest id all))) old new)
        by_found [] is made fresh counted leaves =
            let same = none_found key rest id all is in
            inl (counted, same, leaves _ (made ∙ ap (map (row_of key rest)) same))
        by_found (x ∷ []) is made fresh counted leaves = inr (counted, leaves _ made)
        by_found (x ∷ y ∷ more') is made fresh counted leaves =
            let again = put_taken id tail (map (row_of key rest) (left key rest id all)) in
            absurd (true≢false (sym (and_parts _ _ (and_parts _ _ fresh).1).0 ∙ ap not again))
