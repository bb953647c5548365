-- What a SELECT shows of rows of ours are all their columns, so they stand in the tree as they were read.
use Rattle.std.proofs.Common.{◌≡◌, ◌+◌, ◌<◌, ◌≤◌, zero, suc, ℕ, Bool, true, false, cond, not, List, [], ◌∷◌, ◌++◌, map, length, Option, Some, None, ◌||◌, eqb, inl, inr, refl, sym, ap, ap₂, subst, subst₂, ◌∙◌, arith, get_or, take, IfSome, IsPermutation, append_assoc, codes}
use Rattle.std.specs.List.{AllByRecursion}
use Rattle.std.specs.Option.{option_to_list}
use Rattle.std.specs.Prelude.{drop}
use Rattle.std.specs.Str.{is_utf8}
use Rattle.std.proofs.lemmas.Bool.{and_parts, cases_lt, true≢false}
use Rattle.std.proofs.lemmas.Bool.Decides.{nat_tests}
use Rattle.std.proofs.lemmas.List.{length-take-le, take_more}
use Rattle.std.proofs.lemmas.List.Sorted.{IsPermutation-map, IsPermutation-sym, length_permutation}
use Rattle.sqlite.specs.Effect.{Database}
use Rattle.sqlite.specs.State.{State, Shown}
use Rattle.sqlite.proofs.Callers.{one_permutation}
use Rattle.sqlite_schema.specs.Rules.{Keeps, are_present, are_typed, passes}
use Rattle.sqlite_schema.specs.declared.schema.Column.{Column}
use Rattle.sqlite_schema.specs.declared.schema.Constraint.{Constraint}
use Rattle.sqlite_schema.specs.declared.schema.Constraint.TheVariants.{Datatype, NotNull}
use Rattle.sqlite_schema.specs.declared.schema.Kind.TheVariants.{Integer}
use Rattle.sqlite_schema.specs.declared.schema.Schema.{Schema}
use Rattle.sqlite_schema.specs.declared.schema.Table.{Table}
use Rattle.sqlite_sql.specs.Ops.{is_null}
use Rattle.sqlite_trees.specs.Tree.{Trees}
use Rattle.sqlite_value.specs.declared.value.Value.{Value}
use Rattle.sqlite_value.specs.declared.value.Value.TheVariants.{Null, Int, Real, Text, Blob}
use Rattle.sqlite_value.specs.Order.{Row, column}
use Rattle.tailcfg.specs.declared.dns.DnsExtra.{DnsExtra}
use Rattle.store_commits.specs.Kept.{HoldsInTree, placed_rows, policy_row, tree_row, value_of}
use Rattle.store_commits.proofs.KeptLists.{placed_are, with_places}
use Rattle.store_rows.specs.Reads.{IsReadBack}
use Rattle.store_rows.specs.Rows.{auth_key_cells, extra_cells, machine_cells, meta_cells, pending_cells, policy_cells, user_cells}
use Rattle.net_rows.specs.declared.change.Counters.{Counters}
use Rattle.net_rows.specs.declared.key.AuthKey.{AuthKey}
use Rattle.net_rows.specs.declared.machine.Machine.{Machine}
use Rattle.net_rows.specs.declared.pending.Pending.{Pending}
use Rattle.net_rows.specs.declared.user.User.{User}
use Rattle.store_rows.specs.declared.cell.Cell.{Cell}
use Rattle.store_rows.specs.declared.cell.Cell.TheVariants as cell
use Rattle.store_sql.specs.Schema.{auth_keys_table, column_of, extras_table, machines_table, meta_table, pending_table, policy_table, schema_1, users_table}
use Rattle.store_sql.specs.declared.texts.TheConstants.{SELECT_AUTH_KEYS, SELECT_EXTRAS, SELECT_MACHINES, SELECT_META, SELECT_PENDING, SELECT_POLICY, SELECT_USERS}
use Rattle.store_sql.proofs.Selects.{select_auth_keys_means, select_extras_means, select_machines_means, select_meta_means, select_pending_means, select_policy_means, select_users_means}
use Rattle.store_sql.proofs.Shows.{shows_each}
use Rattle.store_reads.specs.Back.{IsOfOurs, IsOurs, IsRowTaken, IsTakenExtra}
use Rattle.store_reads.proofs.Lists.{shown_count}
use Rattle.store_reads.proofs.ShownRows.{shown_places}
use Rattle.store_reads.specs.Readable.{IsGivenBack, IsReadable, IsReadableExtra, cell_in, shown_extras, shown_row}

-- ---- cells

kept_cell : (c : Cell) (v : Value) → IsOfOurs c → c ≡ cell_in v → (v ≡ value_of c) × IsGivenBack c
kept_cell c Null ours e = subst (λ d. (Null ≡ value_of d) × IsGivenBack d) (sym e) (refl, tt)
kept_cell c (Int n) ours e = subst (λ d. (Int n ≡ value_of d) × IsGivenBack d) (sym e) (refl, tt)
kept_cell c (Real x) ours e = absurd (subst IsOfOurs e ours)
kept_cell c (Text bytes) ours e = go (is_utf8 bytes) refl e
  where
    go : (b : Bool) → is_utf8 bytes ≡ b → c ≡ cond b (cell.Text bytes) cell.Other → (Text bytes ≡ value_of c) × IsGivenBack c
    go true is same = subst (λ d. (Text bytes ≡ value_of d) × IsGivenBack d) (sym same) (refl, is)
    go false is same = absurd (subst IsOfOurs same ours)
kept_cell c (Blob bytes) ours e = subst (λ d. (Blob bytes ≡ value_of d) × IsGivenBack d) (sym e) (refl, tt)

-- a row whose cells are these shows them, and they are given back
pub kept_cells : (cells : List Cell) (row : Row) → AllByRecursion IsOfOurs cells → cells ≡ map cell_in row → (row ≡ shown_row cells) × AllByRecursion IsGivenBack cells
kept_cells [] [] ours e = (refl, tt)
kept_cells [] (v ∷ vs) ours e = absurd (cc (e))
kept_cells (c ∷ cs) [] ours e = absurd (cc (e))
kept_cells (c ∷ cs) (v ∷ vs) ours e =
    let first = kept_cell c v ours.0 (cc (e)) in
    let more = kept_cells cs vs ours.1 (cc (e)) in
    (ap₂ ◌∷◌ first.0 more.0, (first.1, more.1))

-- ---- rows

-- the columns of a row, so many from a place on
abbrev pub columns_from : ℕ → ℕ → Row → Row
columns_from at zero row = []
columns_from at (suc count) row = column row at ∷ columns_from (at + 1) count row

-- a row without its key's column, and with it
abbrev pub without_key : ℕ → Row → Row
without_key count row = column row 0 ∷ columns_from 2 count row

abbrev pub with_key : Row → Row
with_key [] = []
with_key (v ∷ vs) = v ∷ Null ∷ vs

column_there : (before : Row) (v : Value) (vs : Row) → column (before ++ v ∷ vs) (length before) ≡ v
column_there [] v vs = refl
column_there (b ∷ before) v vs = column_there before v vs

columns_are : (before vs : Row) → columns_from (length before) (length vs) (before ++ vs) ≡ vs
columns_are before [] = refl
columns_are before (v ∷ vs) =
    let next : length before + 1 ≡ length (before ++ v ∷ []) = length_more before v in
    ap₂ ◌∷◌ (column_there before v vs) (ap₂ (λ at row. columns_from at (length vs) row) next (sym (append_assoc before (v ∷ []) vs)) ∙ columns_are (before ++ v ∷ []) vs)
  where
    length_more : (xs : Row) (x : Value) → length xs + 1 ≡ length (xs ++ x ∷ [])
    length_more [] x = refl
    length_more (y ∷ ys) x = let more = length_more ys x in omega (arith, more)

beyond : (row : Row) (at : ℕ) → length row ≤ at → column row at ≡ Null
beyond [] at h = refl
beyond (v ∷ vs) zero h = absurd (omega (arith, h))
beyond (v ∷ vs) (suc at) h = beyond vs at (omega (arith, h))

-- no more values than columns
short_enough : (at : ℕ) (columns : List Column) (vs : Row) → are_typed (Some 0) at columns vs ≡ true → length vs ≤ length columns
short_enough at [] [] h = omega arith
short_enough at [] (v ∷ vs) h = absurd (true≢false (sym h))
short_enough at (c ∷ cs) [] h = omega arith
short_enough at (c ∷ cs) (v ∷ vs) h = let more = short_enough (at + 1) cs vs (and_parts _ _ h).1 in omega (arith, more)

-- the last column may not be NULL
abbrev pub is_closed : List Column → Bool
is_closed [] = false
is_closed (c ∷ []) = c.not_null
is_closed (c ∷ d ∷ cs) = is_closed (d ∷ cs)

not_null : (key here given : Bool) → key ≡ false → here ≡ true → key || not here || not given ≡ true → given ≡ false
not_null false true true k h e = absurd (true≢false (sym e))
not_null false true false k h e = refl
not_null true here given k h e = absurd (true≢false k)
not_null false false given k h e = absurd (true≢false (sym h))

last_there : (at : ℕ) (columns : List Column) (row : Row) → 0 < at → are_present (Some 0) at columns row ≡ true → is_closed columns ≡ true → is_null (column row (at + length columns)) ≡ false
last_there at [] row some h closed = absurd (true≢false (sym closed))
last_there at (c ∷ []) row some h closed =
    let first = (and_parts _ _ h).0 in
    let apart : eqb 0 at ≡ false = apart_from at some in
    not_null (eqb 0 at) c.not_null (is_null (column row (at + 1))) apart closed first
  where
    apart_from : (n : ℕ) → 0 < n → eqb 0 n ≡ false
    apart_from n p = grind (arith, nat_tests)
last_there at (c ∷ d ∷ cs) row some h closed =
    let more = last_there (at + 1) (d ∷ cs) row (omega arith) (and_parts _ _ h).1 closed in
    let there : at + 1 + length (d ∷ cs) ≡ at + length (c ∷ d ∷ cs) = omega arith in
    subst (λ n. is_null (column row n) ≡ false) there more

pub null_is : (v : Value) → is_null v ≡ true → v ≡ Null
null_is Null h = refl
null_is (Int n) h = absurd (true≢false (sym h))
null_is (Real x) h = absurd (true≢false (sym h))
null_is (Text t) h = absurd (true≢false (sym h))
null_is (Blob b) h = absurd (true≢false (sym h))

-- a row that obeys such a table has its key and all columns, and NULL in the place of the key
pub whole_row : (first : Column) (columns : List Column) (row : Row) → are_typed (Some 0) 0 (first ∷ columns) (drop 1 row) ≡ true → are_present (Some 0) 0 (first ∷ columns) row ≡ true → is_closed columns ≡ true
    → with_key (without_key (length columns) row) ≡ row
whole_row first columns row typed present closed = go row typed (last_there 1 columns row (omega arith) (and_parts (eqb 0 0 || not first.not_null || not (is_null (column row (0 + 1)))) (are_present (Some 0) 1 columns row) present).1 closed)
  where
    none_there : (r : Row) → length r ≤ 1 + length columns → is_null (column r (1 + length columns)) ≡ false → ⊥
    none_there r short some = true≢false (sym (ap is_null (beyond r (1 + length columns) short)) ∙ some)

    go : (r : Row) → are_typed (Some 0) 0 (first ∷ columns) (drop 1 r) ≡ true → is_null (column r (1 + length columns)) ≡ false → with_key (without_key (length columns) r) ≡ r
    go [] t some = absurd (none_there [] (omega arith) some)
    go (a ∷ []) t some = absurd (none_there (a ∷ []) (omega arith) some)
    go (a ∷ b ∷ rest) t some =
        let parts = and_parts _ _ t in
        let key : b ≡ Null = null_is b parts.0 in
        let short = short_enough 1 columns rest parts.1 in
        elim (cases_lt (length rest) (length columns)) [
          | inl less ↦ absurd (none_there (a ∷ b ∷ rest) (omega (arith, less)) some)
          | inr long ↦ (
              let count : length columns ≡ length rest = omega (arith, short, long) in
              ap₂ (λ k vs. a ∷ k ∷ vs) (sym key) (ap (λ n. columns_from 2 n (a ∷ b ∷ rest)) count ∙ columns_are (a ∷ b ∷ []) rest)
              )
        ]

-- ---- trees

-- all rows of a tree that obey such a table
pub whole_rows : (first : Column) (columns : List Column) (rows : List Row) → AllByRecursion (λ row. are_typed (Some 0) 0 (first ∷ columns) (drop 1 row) ≡ true) rows
    → AllByRecursion (λ row. are_present (Some 0) 0 (first ∷ columns) row ≡ true) rows → is_closed columns ≡ true → map with_key (map (without_key (length columns)) rows) ≡ rows
whole_rows first columns [] typed present closed = refl
whole_rows first columns (row ∷ rows) typed present closed = ap₂ ◌∷◌ (whole_row first columns row typed.0 present.0 closed) (whole_rows first columns rows typed.1 present.1 closed)

-- so they stand as they are shown
pub stand_as_shown : {T : Type 0} (cells : T → List Cell) (count : ℕ) (tree : List Row) (xs : List T) → map with_key (map (without_key count) tree) ≡ tree
    → ((x : T) → with_key (shown_row (cells x)) ≡ tree_row (cells x)) → IsPermutation (map (without_key count) tree) (map (λ x. shown_row (cells x)) xs)
    → IsPermutation (map (λ x. tree_row (cells x)) xs) tree
stand_as_shown cells count tree xs whole same shown =
    IsPermutation-sym _ _ (subst₂ IsPermutation whole (images xs) (IsPermutation-map with_key _ _ shown))
  where
    images : (ys : List _) → map with_key (map (λ x. shown_row (cells x)) ys) ≡ map (λ x. tree_row (cells x)) ys
    images [] = refl
    images (y ∷ ys) = ap₂ ◌∷◌ (same y) (images ys)

pub only_typed : (schema : Schema) (db : Trees) (t : Table) (rows : List Row) → AllByRecursion (λ row. passes Datatype schema db t row ≡ true) rows
    → AllByRecursion (λ row. are_typed t.key 0 t.columns (drop 1 row) ≡ true) rows
only_typed schema db t [] h = tt
only_typed schema db t (row ∷ rows) h = ((and_parts _ _ h.0).0, only_typed schema db t rows h.1)

pub obeyed : (db : Database) → IsOurs db → (rule : Constraint) → Keeps rule schema_1 db.trees
obeyed db ours rule = subst (λ s. Keeps rule s db.trees) ours.schema (ours.obeys.obeys.rules rule)

-- ---- tables

pub next_stands : (old new : State) (next : Counters) → IsOurs old.now → Shown SELECT_META.now [] old new (shown_row (meta_cells next) ∷ []) → old.now.trees 0 ≡ tree_row (meta_cells next) ∷ []
next_stands old new next ours shown =
    let typed = only_typed schema_1 old.now.trees meta_table (old.now.trees 0) (obeyed old.now ours Datatype).0 in
    let whole = whole_rows (column_of (codes "k") Integer false) (drop 1 meta_table.columns) (old.now.trees 0) typed (obeyed old.now ours NotNull).0 refl in
    one_permutation _ _ (stand_as_shown meta_cells 5 (old.now.trees 0) (next ∷ []) whole (λ x. refl) (shows_each 0 _ SELECT_META.now _ old new _ select_meta_means ours.schema shown))

pub users_stand : (old new : State) (xs : List User) → IsOurs old.now → Shown SELECT_USERS.now [] old new (map (λ x. shown_row (user_cells x)) xs) → HoldsInTree (old.now.trees 1) (map (λ x. tree_row (user_cells x)) xs)
users_stand old new xs ours shown =
    let typed = only_typed schema_1 old.now.trees users_table (old.now.trees 1) (obeyed old.now ours Datatype).1.0 in
    let whole = whole_rows (column_of (codes "id") Integer false) (drop 1 users_table.columns) (old.now.trees 1) typed (obeyed old.now ours NotNull).1.0 refl in
    stand_as_shown user_cells 1 (old.now.trees 1) xs whole (λ x. refl) (shows_each 1 _ SELECT_USERS.now _ old new _ select_users_means ours.schema shown)

pub keys_stand : (old new : State) (xs : List AuthKey) → IsOurs old.now → Shown SELECT_AUTH_KEYS.now [] old new (map (λ x. shown_row (auth_key_cells x)) xs) → HoldsInTree (old.now.trees 3) (map (λ x. tree_row (auth_key_cells x)) xs)
keys_stand old new xs ours shown =
    let typed = only_typed schema_1 old.now.trees auth_keys_table (old.now.trees 3) (obeyed old.now ours Datatype).1.1.0 in
    let whole = whole_rows (column_of (codes "id") Integer false) (drop 1 auth_keys_table.columns) (old.now.trees 3) typed (obeyed old.now ours NotNull).1.1.0 refl in
    stand_as_shown auth_key_cells 7 (old.now.trees 3) xs whole (λ x. refl) (shows_each 3 _ SELECT_AUTH_KEYS.now _ old new _ select_auth_keys_means ours.schema shown)

pub pending_stand : (old new : State) (xs : List Pending) → IsOurs old.now → Shown SELECT_PENDING.now [] old new (map (λ x. shown_row (pending_cells x)) xs) → HoldsInTree (old.now.trees 5) (map (λ x. tree_row (pending_cells x)) xs)
pending_stand old new xs ours shown =
    let typed = only_typed schema_1 old.now.trees pending_table (old.now.trees 5) (obeyed old.now ours Datatype).1.1.1.0 in
    let whole = whole_rows (column_of (codes "id") Integer false) (drop 1 pending_table.columns) (old.now.trees 5) typed (obeyed old.now ours NotNull).1.1.1.0 refl in
    stand_as_shown pending_cells 9 (old.now.trees 5) xs whole (λ x. refl) (shows_each 5 _ SELECT_PENDING.now _ old new _ select_pending_means ours.schema shown)

pub machines_stand : (old new : State) (xs : List Machine) → IsOurs old.now → Shown SELECT_MACHINES.now [] old new (map (λ x. shown_row (machine_cells x)) xs) → HoldsInTree (old.now.trees 8) (map (λ x. tree_row (machine_cells x)) xs)
machines_stand old new xs ours shown =
    let typed = only_typed schema_1 old.now.trees machines_table (old.now.trees 8) (obeyed old.now ours Datatype).1.1.1.1.0 in
    let whole = whole_rows (column_of (codes "id") Integer false) (drop 1 machines_table.columns) (old.now.trees 8) typed (obeyed old.now ours NotNull).1.1.1.1.0 refl in
    stand_as_shown machine_cells 16 (old.now.trees 8) xs whole (λ x. refl) (shows_each 8 _ SELECT_MACHINES.now _ old new _ select_machines_means ours.schema shown)

pub extras_stand : (old new : State) (xs : List DnsExtra) → IsOurs old.now → Shown SELECT_EXTRAS.now [] old new (shown_extras 1 xs) → HoldsInTree (old.now.trees 14) (placed_rows 1 xs)
extras_stand old new xs ours shown =
    let typed = only_typed schema_1 old.now.trees extras_table (old.now.trees 14) (obeyed old.now ours Datatype).1.1.1.1.1.0 in
    let whole = whole_rows (column_of (codes "place") Integer false) (drop 1 extras_table.columns) (old.now.trees 14) typed (obeyed old.now ours NotNull).1.1.1.1.1.0 refl in
    let placed = subst (λ rows. Shown SELECT_EXTRAS.now [] old new rows) (sym (shown_places 1 xs)) shown in
    subst (λ rows. IsPermutation rows (old.now.trees 14)) (sym (placed_are 1 xs))
    (stand_as_shown (λ (p : ℕ × DnsExtra). extra_cells p.0 p.1) 2 (old.now.trees 14) (with_places 1 xs) whole (λ x. refl) (shows_each 14 _ SELECT_EXTRAS.now _ old new _ select_extras_means ours.schema placed))

policy_alone : (policy : Option (List ℕ)) (tree : List Row) → IsPermutation (map (λ body. tree_row (policy_cells body)) (option_to_list policy)) tree → tree ≡ policy_row policy
policy_alone None [] same = refl
policy_alone None (r ∷ rs) same = absurd (omega (arith, length_permutation _ _ same))
policy_alone (Some body) tree same = one_permutation _ _ same

pub policy_stands : (old new : State) (policy : Option (List ℕ)) → IsOurs old.now → Shown SELECT_POLICY.now [] old new (map (λ body. shown_row (policy_cells body)) (option_to_list policy)) → old.now.trees 15 ≡ policy_row policy
policy_stands old new policy ours shown =
    let typed = only_typed schema_1 old.now.trees policy_table (old.now.trees 15) (obeyed old.now ours Datatype).1.1.1.1.1.1.0 in
    let whole = whole_rows (column_of (codes "k") Integer false) (drop 1 policy_table.columns) (old.now.trees 15) typed (obeyed old.now ours NotNull).1.1.1.1.1.1.0 refl in
    policy_alone policy (old.now.trees 15) (stand_as_shown policy_cells 1 (old.now.trees 15) (option_to_list policy) whole (λ x. refl) (shows_each 15 _ SELECT_POLICY.now _ old new _ select_policy_means ours.schema shown))

-- ---- readings

-- what is read of cells that a database shows
pub read_back : {T : Type 0} (stored : T → List Cell) (Typed : T → Type 0) (cells : List Cell) (row : Row) (found : Option T) → ((x : T) → AllByRecursion IsOfOurs (stored x)) → cells ≡ map cell_in row → IsReadBack stored Typed cells found
    → IfSome found (λ x. (row ≡ shown_row (stored x)) × IsReadable stored Typed x)
read_back stored Typed cells row None ours shows read = tt
read_back stored Typed cells row (Some x) ours shows read = let kept = kept_cells (stored x) row (ours x) (read.is.0 ∙ shows) in (kept.0, (read.is.1, kept.1))

-- the rows that were read so far are those that stand before the place
pub record AreReadSo {T : Type 0} (cells : T → List Cell) (Typed : T → Type 0) (rows : List Row) (all : List T) : Type 0 where
  pub shows : rows ≡ map (λ x. shown_row (cells x)) all
  pub readable : AllByRecursion (IsReadable cells Typed) all

map_last : {A B : Type 0} (f : A → B) (xs : List A) (x : A) → map f (xs ++ x ∷ []) ≡ map f xs ++ f x ∷ []
map_last f [] x = refl
map_last f (y ∷ xs) x = ap (λ l. f y ∷ l) (map_last f xs x)

all_with_last : {T : Type 0} (P : T → Type 0) (xs : List T) (x : T) → AllByRecursion P xs → P x → AllByRecursion P (xs ++ x ∷ [])
all_with_last P [] x all one = (one, tt)
all_with_last P (y ∷ xs) x all one = (all.0, all_with_last P xs x all.1 one)

one_more : {T : Type 0} (xs : List T) (i : ℕ) (x : T) → i < length xs → x ≡ get_or xs i x → take (i + 1) xs ≡ take i xs ++ x ∷ []
one_more xs i x less is = take_more xs i x less ∙ ap (λ y. take i xs ++ y ∷ []) (sym is)

pub read_on : {T : Type 0} (cells : T → List Cell) (Typed : T → Type 0) (rows : List Row) (i : ℕ) (row : Row) (all new : List T) → i < length rows → row ≡ get_or rows i row → AreReadSo cells Typed (take i rows) all
    → IsRowTaken cells Typed row all new → AreReadSo cells Typed (take (i + 1) rows) new
read_on {T} cells Typed rows i row all new less is so taken =
    let f : T → Row = λ x. shown_row (cells x) in
    record {
      shows = one_more rows i row less is ∙ ap₂ (λ l r. l ++ r ∷ []) so.shows taken.shows ∙ sym (map_last f all taken.it) ∙ ap (map f) (sym taken.added);
      readable = subst (AllByRecursion (IsReadable cells Typed)) (sym taken.added) (all_with_last _ all taken.it so.readable taken.readable);
    }

-- the same of extra records
pub record AreExtrasReadSo (rows : List Row) (all : List DnsExtra) : Type 0 where
  pub shows : rows ≡ shown_extras 1 all
  pub readable : AllByRecursion IsReadableExtra all

shown_last : (place : ℕ) (xs : List DnsExtra) (x : DnsExtra) → shown_extras place (xs ++ x ∷ []) ≡ shown_extras place xs ++ shown_row (extra_cells (place + length xs) x) ∷ []
shown_last place [] x = ap (λ n. shown_row (extra_cells n x) ∷ []) (omega arith)
shown_last place (y ∷ ys) x =
    let here : (place + 1) + length ys ≡ place + length (y ∷ ys) = omega arith in
    ap (λ l. shown_row (extra_cells place y) ∷ l) (shown_last (place + 1) ys x ∙ ap (λ n. shown_extras (place + 1) ys ++ shown_row (extra_cells n x) ∷ []) here)

pub extra_read_on : (rows : List Row) (i place : ℕ) (row : Row) (all new : List DnsExtra) → i < length rows → row ≡ get_or rows i row → place ≡ i + 1 → AreExtrasReadSo (take i rows) all → IsTakenExtra place row all new
    → AreExtrasReadSo (take (i + 1) rows) new
extra_read_on rows i place row all new less is at so taken =
    let count : length all ≡ i = sym (shown_count 1 all) ∙ ap length (sym so.shows) ∙ length-take-le i rows (omega (arith, less)) in
    let here : place ≡ 1 + length all = omega (arith, at, count) in
    record {
      shows = one_more rows i row less is ∙ ap₂ (λ l r. l ++ r ∷ []) so.shows (taken.shows ∙ ap (λ n. shown_row (extra_cells n taken.it)) here) ∙ sym (shown_last 1 all taken.it) ∙ ap (shown_extras 1) (sym taken.added);
      readable = subst (AllByRecursion IsReadableExtra) (sym taken.added) (all_with_last _ all taken.it so.readable taken.readable);
    }

pub if_some : {T : Type 0} (o : Option T) (P Q : T → Type 0) → ((x : T) → P x → Q x) → IfSome o P → IfSome o Q
if_some None P Q f h = tt
if_some (Some x) P Q f h = f x h

-- one row is all there are
pub alone : (rows : List Row) (row : Row) → 0 < length rows → length rows < 2 → row ≡ get_or rows 0 row → rows ≡ row ∷ []
alone [] row some few is = absurd (omega (arith, some))
alone (r ∷ []) row some few is = ap (λ x. x ∷ []) (sym is)
alone (r ∷ s ∷ rows) row some few is = absurd (omega (arith, few))
