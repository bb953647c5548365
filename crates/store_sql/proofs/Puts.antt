-- What the statements of schema 1 make of its tables, whatever rows stand in them.
use Rattle.std.proofs.Common.{◌≡◌, ◌≢◌, ◌⊎◌, ◌/◌, inl, inr, ℕ, ℤ, pos, List, [], ◌∷◌, ◌++◌, map, length, slice_get, Bool, true, false, cond, Some, refl, sym, ap, ap₂, subst, ◌∙◌, arith}
use Rattle.std.specs.List.{AllByRecursion}
use Rattle.sqlite_value.specs.declared.value.Value.{Value}
use Rattle.sqlite_value.specs.declared.value.Value.TheVariants.{Null, Int, Blob}
use Rattle.sqlite_value.specs.declared.keys.Order.{Order}
use Rattle.sqlite_value.specs.Order.{Row, value_cmp}
use Rattle.sqlite_schema.specs.declared.schema.Column.{Column}
use Rattle.sqlite_schema.specs.declared.schema.Kind.TheVariants.{Integer}
use Rattle.sqlite_schema.specs.declared.schema.Table.{Table}
use Rattle.sqlite_schema.specs.declared.schema.Keys.{Keys}
use Rattle.sqlite_schema.specs.declared.command.Command.TheVariants.{Insert, Delete, Update}
use Rattle.sqlite_schema.specs.declared.command.Source.TheVariants.{Values}
use Rattle.sqlite_sql.specs.Ops.{unary}
use Rattle.sqlite_sql.specs.Term.{Term, eval_all}
use Rattle.sqlite_trees.specs.Tree.{Trees, put_row}
use Rattle.sqlite_rules.specs.Action.{works}
use Rattle.sqlite_rules.specs.Cast.{cast, cast_all, cast_row}
use Rattle.sqlite.specs.Effect.{Database, value_rows}
use Rattle.store_sql.specs.Commands.{one_by_id, replaced_by_id, all_ids}
use Rattle.store_sql.specs.Means.{Means}
use Rattle.store_sql.specs.Ran.{HasRun, IsPutBy}
use Rattle.store_sql.specs.Schema.{schema_1, column_of}
use Rattle.store_sql.proofs.Lists.{row_of, left}
use Rattle.store_sql.specs.Standing.{AreTaken, SetsRows}
use Rattle.store_sql.proofs.Writes.{plain_table, inserts, deletes, replaces, empties}

-- no table of ours refers to another one
calm_1 : (keys : Keys) (tree : ℕ) (olds news : List Row) → works schema_1 keys 0 tree olds news ≡ []
calm_1 keys tree olds news = refl

either : (b : Bool) (x : Value) → cond b x x ≡ x
either true x = refl
either false x = refl

pub cast_number : (n : ℤ) → cast Integer (Int n) ≡ Int n
unfolding unary
cast_number n = either _ (Int n)

pub cast_nothing : cast Integer Null ≡ Null
unfolding unary
cast_nothing = either _ Null

pub cast_bytes : (b : List ℕ) → cast Integer (Blob b) ≡ Blob b
unfolding unary value_cmp
cast_bytes b = refl

takes_all : (columns : List Column) (values : Row) → AreTaken columns values → cast_all columns values ≡ values
takes_all [] [] h = refl
takes_all [] (v ∷ vs) h = absurd h
takes_all (c ∷ cs) [] h = absurd h
takes_all (c ∷ cs) (v ∷ vs) h = ap₂ ◌∷◌ h.0 (takes_all cs vs h.1)

others_then : (tables : List Table) (tree : ℕ) (a b c : Trees) → AllByRecursion (λ t. t.tree ≢ tree → b t.tree ≡ a t.tree) tables → AllByRecursion (λ t. t.tree ≢ tree → c t.tree ≡ b t.tree) tables
    → AllByRecursion (λ t. t.tree ≢ tree → c t.tree ≡ a t.tree) tables
others_then [] tree a b c p q = tt
others_then (t ∷ ts) tree a b c p q = (λ other. q.0 other ∙ p.0 other, others_then ts tree a b c p.1 q.1)

-- the place, the tree and the columns behind the key of a table of schema 1
pub record IsTableAt (at tree : ℕ) (columns : List Column) : Type 0 where
  pub name : List ℕ
  pub key_name : List ℕ
  pub uniques : List (List ℕ)
  pub orders : List Order
  pub is : slice_get schema_1.tables at ≡ Some (plain_table name tree (column_of key_name Integer false ∷ columns) uniques orders)

module _ (at tree : ℕ) (columns : List Column) (place : IsTableAt at tree columns) (id : ℕ) (more : Row) (taken : AreTaken columns more) where
  kept : cast_row (plain_table place.name tree (column_of place.key_name Integer false ∷ columns) place.uniques place.orders) (Int (pos id) ∷ Null ∷ more) ≡ Int (pos id) ∷ Null ∷ more
  kept = ap₂ ◌∷◌ (cast_number (pos id)) (ap₂ ◌∷◌ cast_nothing (takes_all columns more taken))

  -- an INSERT adds the row of its parameters
  pub adds_row : (text : List ℕ) (terms : List Term) (width count : ℕ) (old new : Database) → old.schema ≡ schema_1 → Means text (Insert at (Values terms width))
      → value_rows ((Int (pos id) ∷ more) ++ []) width (length terms / width) terms ≡ (Int (pos id) ∷ Null ∷ more) ∷ []
      → HasRun text (Int (pos id) ∷ more) count old new → SetsRows schema_1 tree (put_row (Int (pos id) ∷ Null ∷ more) (old.trees tree)) old new
  adds_row text terms width count old new has means given ran =
      inserts schema_1 calm_1 place.name tree (column_of place.key_name Integer false ∷ columns) place.uniques place.orders at place.is text (Int (pos id) ∷ more) old new has means.plain
      terms width count (Int (pos id) ∷ Null ∷ more) means.command_is given kept refl ran

  -- Where rows stand under ids, a put replaces the row of the id, or adds it.
  pub puts_row : {A : Type 0} (key : A → ℕ) (rest : A → Row) (all : List A) (update insert : List ℕ) (replaced added : List Term) (width : ℕ) (old new : Database)
      → old.schema ≡ schema_1 → old.trees tree ≡ map (row_of key rest) all
      → Means update (Update at (record { lets = []; body = replaced_by_id tree replaced })) → Means insert (Insert at (Values added width))
      → ((row : Row) → eval_all replaced ((Int (pos id) ∷ more) ∷ (Int (pos id) ∷ row) ∷ []) ≡ Int (pos id) ∷ Null ∷ more)
      → value_rows ((Int (pos id) ∷ more) ++ []) width (length added / width) added ≡ (Int (pos id) ∷ Null ∷ more) ∷ []
      → IsPutBy update insert (Int (pos id) ∷ more) old new
      → SetsRows schema_1 tree (put_row (Int (pos id) ∷ Null ∷ more) (map (row_of key rest) (left key rest id all))) old new
  puts_row {A} key rest all update insert replaced added width old new has stood updates adds shows given put = go put
    where
      one : (count : ℕ) (after : Database) → HasRun update (Int (pos id) ∷ more) count old after
          → ((count ≡ 0) × (left key rest id all ≡ all) × SetsRows schema_1 tree (map (row_of key rest) all) old after)
          ⊎ ((count ≡ 1) × SetsRows schema_1 tree (put_row (Int (pos id) ∷ Null ∷ more) (map (row_of key rest) (left key rest id all))) old after)
      one count after ran =
          replaces schema_1 calm_1 place.name tree (column_of place.key_name Integer false ∷ columns) place.uniques place.orders at place.is update (Int (pos id) ∷ more) old after has updates.plain
          key rest all stood id more refl replaced (Null ∷ more) count updates.command_is
          (λ x e. subst (λ n. eval_all replaced ((Int (pos id) ∷ more) ∷ (Int (pos n) ∷ rest x) ∷ []) ≡ Int (pos id) ∷ Null ∷ more) (sym e) (shows (rest x))) kept ran

      go : IsPutBy update insert (Int (pos id) ∷ more) old new → SetsRows schema_1 tree (put_row (Int (pos id) ∷ Null ∷ more) (map (row_of key rest) (left key rest id all))) old new
      go (inl (count, some, ran)) = elim (one count new ran) [ inl none ↦ absurd (omega (arith, some, none.0)) | inr found ↦ found.1 ]
      go (inr (mid, count, ran, then)) = elim (one 0 mid ran) [
        | inl none ↦
            let first = none.2 in
            let next = adds_row insert added width count mid new first.schema_is adds given then in
            record {
              schema_is = next.schema_is;
              rows_are = next.rows_are ∙ ap (put_row (Int (pos id) ∷ Null ∷ more)) (first.rows_are ∙ ap (map (row_of key rest)) (sym none.1));
              others = others_then schema_1.tables tree old.trees mid.trees new.trees first.others next.others;
            }
        | inr found ↦ absurd (omega (arith, found.0))
      ]

module _ (at tree : ℕ) (columns : List Column) (place : IsTableAt at tree columns) {A : Type 0} (key : A → ℕ) (rest : A → Row) (all : List A) (text : List ℕ) (count : ℕ) (old new : Database)
    (has : old.schema ≡ schema_1) (stood : old.trees tree ≡ map (row_of key rest) all) where
  -- a DELETE by the id takes out its row
  pub takes_out : (id : ℕ) → Means text (Delete at (record { lets = []; body = one_by_id tree })) → HasRun text (Int (pos id) ∷ []) count old new
      → SetsRows schema_1 tree (map (row_of key rest) (left key rest id all)) old new
  takes_out id means ran =
      deletes schema_1 calm_1 place.name tree (column_of place.key_name Integer false ∷ columns) place.uniques place.orders at place.is text (Int (pos id) ∷ []) old new has means.plain
      key rest all stood id [] refl count means.command_is ran

  -- a DELETE of all rows leaves none
  pub takes_all_out : (params : Row) → Means text (Delete at (record { lets = []; body = all_ids tree })) → HasRun text params count old new → SetsRows schema_1 tree [] old new
  takes_all_out params means ran =
      empties schema_1 calm_1 place.name tree (column_of place.key_name Integer false ∷ columns) place.uniques place.orders at place.is text params old new has means.plain
      key rest all stood count means.command_is ran
