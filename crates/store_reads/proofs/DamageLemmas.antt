-- What a SELECT shows of a tree are its rows in their order, so the first that isn't read is the tree's.
use Rattle.std.proofs.Common.{◌≡◌, ◌+◌, ◌<◌, zero, suc, ℕ, true, false, List, [], ◌∷◌, ◌++◌, map, flat_map, length, get_or, take, drop, Option, Some, None, Ok, Err, Result, IfOk, IfErr, IfSome, is_some, Ordering, Less, Equal, Greater, is_lt, inl, inr, refl, sym, ap, ap₂, subst, subst₂, ◌∙◌, arith, IsPermutation, IsSorted, codes}
use Rattle.std.specs.List.{AllByRecursion}
use Rattle.std.specs.Option.{option_and_then, option_map, option_to_list}
use Rattle.std.specs.Ordering.{ordering_then}
use Rattle.std.specs.Str.{is_utf8}
use Rattle.std.proofs.lemmas.List.{get_or-map, length-map}
use Rattle.std.proofs.lemmas.List.Elements.{recursion_from_All, All-from_recursion}
use Rattle.std.proofs.lemmas.List.Sorted.{All-permutation}
use Rattle.net_rows.specs.declared.change.Counters.{Counters}
use Rattle.net_rows.specs.declared.change.Damage.{Damage}
use Rattle.net_rows.specs.declared.change.Kind.{Kind}
use Rattle.net_rows.specs.declared.change.Kind.TheVariants as kind
use Rattle.row_keeper.specs.declared.keeper.LoadFault.{LoadFault}
use Rattle.row_keeper.specs.declared.keeper.LoadFault.TheVariants.{Failed, Damaged, NoMemory}
use Rattle.sqlite.specs.Listing.{understood}
use Rattle.sqlite.specs.State.{IsLive, Shown, State}
use Rattle.sqlite.proofs.Callers.{IsPlain, reads_as}
use Rattle.sqlite_exec.proofs.RunLemmas.{none_given}
use Rattle.sqlite_schema.specs.declared.command.Command.TheVariants.{Select}
use Rattle.sqlite_schema.specs.declared.schema.Column.{Column}
use Rattle.sqlite_schema.specs.declared.schema.Constraint.TheVariants.{Datatype, NotNull}
use Rattle.sqlite_schema.specs.declared.schema.Kind.TheVariants.{Integer}
use Rattle.sqlite_schema.specs.Rules.{are_present, are_typed}
use Rattle.sqlite_sql.specs.Query.{IsAnswer, Output, Query, output, output_cmp, page}
use Rattle.sqlite_sql.specs.Term.{Term, eval_all}
use Rattle.sqlite_trees.specs.Tree.{rowid}
use Rattle.sqlite_value.specs.declared.value.Value.TheVariants.{Null}
use Rattle.sqlite_value.specs.Order.{Row, column, value_cmp}
use Rattle.store_commits.proofs.KeptLists.{image_of}
use Rattle.store_rows.proofs.ReadingLemmas.{Reads}
use Rattle.store_rows.proofs.TableReads.{extra_reads, meta_reads, policy_reads}
use Rattle.store_rows.specs.Reading.{extra_of, meta_of, policy_in_cells}
use Rattle.store_rows.specs.Rows.{IsTypedCounters, IsTypedExtra, extra_cells, meta_cells, policy_cells}
use Rattle.store_rows.specs.declared.cell.Cell.{Cell}
use Rattle.store_sql.specs.Commands.{all_by_id}
use Rattle.store_sql.specs.Means.{Means}
use Rattle.store_sql.specs.Schema.{auth_keys_table, column_of, extras_table, machines_table, meta_table, pending_table, policy_table, schema_1, users_table}
use Rattle.store_sql.specs.declared.texts.TheConstants.{SELECT_AUTH_KEYS, SELECT_EXTRAS, SELECT_MACHINES, SELECT_META, SELECT_PENDING, SELECT_POLICY, SELECT_USERS}
use Rattle.store_sql.proofs.Selects.{select_auth_keys_means, select_extras_means, select_machines_means, select_meta_means, select_pending_means, select_policy_means, select_users_means}
use Rattle.store_reads.specs.Back.{IsOfOurs, IsOurs}
use Rattle.store_reads.specs.Damages.{AreInOrder, Finds, FindsAll, FindsOne, IsFirstUnread, IsFoundIn, NamesDamage, first_unread, id_in, unless_read}
use Rattle.store_reads.specs.Readable.{IsOutside, IsReadable, IsReadableExtra, Yields, cell_in, shown_extras, shown_row}
use Rattle.store_reads.specs.Values.{extras_in, next_in, policy_in_rows, tree_cells, values_in}
use Rattle.store_reads.proofs.BackLemmas.{AreReadSo, is_closed, obeyed, only_typed, read_back, whole_row, with_key, without_key}
use Rattle.store_reads.proofs.GivenBack.{all_given_back}
use Rattle.store_reads.proofs.OursLemmas.{extra_ours, meta_ours, policy_ours}
use Rattle.store_reads.proofs.Seen.{shown_unchanged}
use Rattle.tailcfg.specs.declared.dns.DnsExtra.{DnsExtra}

abbrev damage_of : Kind → ℕ → Damage
damage_of k id = record { kind = k; id = id }

-- ---- faults

pub names_weaker : (P Q : Damage → Type 0) (e : LoadFault) → ((d : Damage) → P d → Q d) → NamesDamage P e → NamesDamage Q e
names_weaker P Q Failed f h = tt
names_weaker P Q (Damaged k id) f h = f (damage_of k id) h
names_weaker P Q NoMemory f h = tt

pub names_outside : (P : Damage → Type 0) (e : LoadFault) → IsOutside e → NamesDamage P e
names_outside P Failed h = tt
names_outside P (Damaged k id) h = absurd h
names_outside P NoMemory h = tt

pub err_weaker : {X : Type 0} (P Q : Damage → Type 0) (r : Result X LoadFault) → ((d : Damage) → P d → Q d) → IfErr r (NamesDamage P) → IfErr r (NamesDamage Q)
err_weaker P Q (Ok x) f h = tt
err_weaker P Q (Err e) f h = names_weaker P Q e f h

pub finds_outside : {X : Type 0} (values : List Row → Option X) (first : List Row → Option Damage) (tree : List Row) (e : LoadFault) → IsOutside e → Finds values first tree (Err e)
finds_outside values first tree e h = names_outside (λ d. (rows : List Row) × AreInOrder tree rows × (first rows ≡ Some d)) e h

-- ---- order

abbrev rowid_cmp : Row → Row → Ordering
rowid_cmp a b = value_cmp (rowid a) (rowid b)

then_less : (o : Ordering) → is_lt (ordering_then o Equal) ≡ false → is_lt o ≡ false
then_less Less h = h
then_less Equal h = h
then_less Greater h = h

-- rows of a tree in their order, of which a query shows these
record IsShownIn (show : Row → Row) (tree rows : List Row) : Type 0 where
  them : List Row
  ordered : AreInOrder tree them
  are : rows ≡ map show them

module _ (tree : ℕ) (columns : List Term) where
  abbrev query : Query
  query = all_by_id tree columns

  abbrev show : Row → Row
  show r = eval_all columns ([] ∷ r ∷ [])

  -- what a row is sorted by, and what is shown of it
  abbrev out : Row → Output
  out r = (column r 0 ∷ [], show r)

  outs : (rows : List Row) → map (output query) (flat_map (λ r. ([] ∷ r ∷ []) ∷ []) rows) ≡ map out rows
  outs [] = refl
  outs (r ∷ rs) = ap (λ l. out r ∷ l) (outs rs)

  seconds : (rows : List Row) → map (λ (p : Output). p.1) (map out rows) ≡ map show rows
  seconds [] = refl
  seconds (r ∷ rs) = ap (λ l. show r ∷ l) (seconds rs)

  not_less : (a b : Row) → is_lt (output_cmp query (out a) (out b)) ≡ false → is_lt (rowid_cmp a b) ≡ false
  not_less a b h = then_less (rowid_cmp a b) h

  by_rowid : (rows : List Row) → IsSorted (output_cmp query) (map out rows) → IsSorted rowid_cmp rows
  by_rowid rows sorted = λ k d low high.
      let next : k + 1 < length rows = high in
      let long : length (map out rows) ≡ length rows = length-map rows out in
      not_less (get_or rows (k + 1) d) (get_or rows k d)
      (subst₂ (λ a b. is_lt (output_cmp query a b) ≡ false) (get_or-map out rows (k + 1) d (out d) next) (get_or-map out rows k d (out d) (omega (arith, next)))
      (sorted k (out d) low (omega (arith, next, long))))

  shown_in : (text : List ℕ) (names : List (List ℕ)) (old new : State) (rows : List Row) → Means text (Select (record { lets = []; body = all_by_id tree columns }) names)
      → old.now.schema ≡ schema_1 → Shown text [] old new rows → IsShownIn show (old.now.trees tree) rows
  shown_in text names old new rows means has h =
      let got = reads_as text [] old new schema_1 has _ means.command_is means.plain means.no_listing rows h in
      let a = subst (λ trees. IsAnswer query trees [] rows) (none_given old.now.trees) (got.answer Null) in
      let kept : a.kept ≡ map out (old.now.trees tree) = a.distinct ∙ ap (map (output query)) a.grouped ∙ outs (old.now.trees tree) in
      let it = image_of out (old.now.trees tree) a.ordered (subst (λ k. IsPermutation k a.ordered) kept a.same) in
      record {
        them = it.them;
        ordered = (it.same, by_rowid it.them (subst (IsSorted (output_cmp query)) it.are a.sorted));
        are = a.shown ∙ ap (λ xs. page query [] (map (λ (p : Output). p.1) xs)) it.are ∙ seconds it.them;
      }

-- ---- whole rows

abbrev pub IsWhole : ℕ → Row → Type 0
IsWhole count row = with_key (without_key count row) ≡ row

all_whole : (first : Column) (columns : List Column) (rows : List Row) → AllByRecursion (λ row. are_typed (Some 0) 0 (first ∷ columns) (drop 1 row) ≡ true) rows
    → AllByRecursion (λ row. are_present (Some 0) 0 (first ∷ columns) row ≡ true) rows → is_closed columns ≡ true → AllByRecursion (IsWhole (length columns)) rows
all_whole first columns [] typed present closed = tt
all_whole first columns (row ∷ rows) typed present closed = (whole_row first columns row typed.0 present.0 closed, all_whole first columns rows typed.1 present.1 closed)

permuted : (P : Row → Type 0) (xs ys : List Row) → IsPermutation xs ys → AllByRecursion P xs → AllByRecursion P ys
permuted P xs ys same all = recursion_from_All P ys (All-permutation P xs ys same (All-from_recursion P xs all))

maps_same : (f g : Row → Row) → ((r : Row) → f r ≡ g r) → (rows : List Row) → map f rows ≡ map g rows
maps_same f g same [] = refl
maps_same f g same (r ∷ rs) = ap₂ ◌∷◌ (same r) (maps_same f g same rs)

-- the whole rows of a tree in their order, and what is shown of them
pub record IsListing (count : ℕ) (tree rows : List Row) : Type 0 where
  pub them : List Row
  pub ordered : AreInOrder tree them
  pub whole : AllByRecursion (IsWhole count) them
  pub are : rows ≡ map (without_key count) them

opened : (text : List ℕ) (old new : State) (rows : List Row) → old.now.schema ≡ schema_1 → IsPlain (understood schema_1 text) → Shown text [] old new rows → IsLive old → IsOurs old.now
opened text old new rows has plain shown live =
    let stays = shown_unchanged text old new rows (subst (λ s. IsPlain (understood s text)) (sym has) plain) shown in
    record { schema = has; obeys = (live stays.was_open).0 }

listing : (count tree : ℕ) (columns : List Term) (text : List ℕ) (names : List (List ℕ)) (old new : State) (rows : List Row) → Means text (Select (record { lets = []; body = all_by_id tree columns }) names)
    → ((r : Row) → eval_all columns ([] ∷ r ∷ []) ≡ without_key count r) → (IsOurs old.now → AllByRecursion (IsWhole count) (old.now.trees tree))
    → old.now.schema ≡ schema_1 → IsLive old → Shown text [] old new rows → IsListing count (old.now.trees tree) rows
listing count tree columns text names old new rows means shows whole has live shown =
    let it = shown_in tree columns text names old new rows means has shown in
    record {
      them = it.them;
      ordered = it.ordered;
      whole = permuted (IsWhole count) (old.now.trees tree) it.them it.ordered.0 (whole (opened text old new rows has means.plain shown live));
      are = it.are ∙ maps_same _ _ shows it.them;
    }

pub next_listing : (old new : State) (rows : List Row) → old.now.schema ≡ schema_1 → IsLive old → Shown SELECT_META.now [] old new rows → IsListing 5 (old.now.trees 0) rows
next_listing old new rows =
    listing 5 0 _ SELECT_META.now _ old new rows select_meta_means (λ r. refl)
    (λ ours. all_whole (column_of (codes "k") Integer false) (drop 1 meta_table.columns) (old.now.trees 0) (only_typed schema_1 old.now.trees meta_table (old.now.trees 0) (obeyed old.now ours Datatype).0) (obeyed old.now ours NotNull).0 refl)

pub users_listing : (old new : State) (rows : List Row) → old.now.schema ≡ schema_1 → IsLive old → Shown SELECT_USERS.now [] old new rows → IsListing 1 (old.now.trees 1) rows
users_listing old new rows =
    listing 1 1 _ SELECT_USERS.now _ old new rows select_users_means (λ r. refl)
    (λ ours. all_whole (column_of (codes "id") Integer false) (drop 1 users_table.columns) (old.now.trees 1) (only_typed schema_1 old.now.trees users_table (old.now.trees 1) (obeyed old.now ours Datatype).1.0) (obeyed old.now ours NotNull).1.0 refl)

pub keys_listing : (old new : State) (rows : List Row) → old.now.schema ≡ schema_1 → IsLive old → Shown SELECT_AUTH_KEYS.now [] old new rows → IsListing 7 (old.now.trees 3) rows
keys_listing old new rows =
    listing 7 3 _ SELECT_AUTH_KEYS.now _ old new rows select_auth_keys_means (λ r. refl)
    (λ ours. all_whole (column_of (codes "id") Integer false) (drop 1 auth_keys_table.columns) (old.now.trees 3) (only_typed schema_1 old.now.trees auth_keys_table (old.now.trees 3) (obeyed old.now ours Datatype).1.1.0) (obeyed old.now ours NotNull).1.1.0 refl)

pub pending_listing : (old new : State) (rows : List Row) → old.now.schema ≡ schema_1 → IsLive old → Shown SELECT_PENDING.now [] old new rows → IsListing 9 (old.now.trees 5) rows
pending_listing old new rows =
    listing 9 5 _ SELECT_PENDING.now _ old new rows select_pending_means (λ r. refl)
    (λ ours. all_whole (column_of (codes "id") Integer false) (drop 1 pending_table.columns) (old.now.trees 5) (only_typed schema_1 old.now.trees pending_table (old.now.trees 5) (obeyed old.now ours Datatype).1.1.1.0) (obeyed old.now ours NotNull).1.1.1.0 refl)

pub machines_listing : (old new : State) (rows : List Row) → old.now.schema ≡ schema_1 → IsLive old → Shown SELECT_MACHINES.now [] old new rows → IsListing 16 (old.now.trees 8) rows
machines_listing old new rows =
    listing 16 8 _ SELECT_MACHINES.now _ old new rows select_machines_means (λ r. refl)
    (λ ours. all_whole (column_of (codes "id") Integer false) (drop 1 machines_table.columns) (old.now.trees 8) (only_typed schema_1 old.now.trees machines_table (old.now.trees 8) (obeyed old.now ours Datatype).1.1.1.1.0) (obeyed old.now ours NotNull).1.1.1.1.0 refl)

pub extras_listing : (old new : State) (rows : List Row) → old.now.schema ≡ schema_1 → IsLive old → Shown SELECT_EXTRAS.now [] old new rows → IsListing 2 (old.now.trees 14) rows
extras_listing old new rows =
    listing 2 14 _ SELECT_EXTRAS.now _ old new rows select_extras_means (λ r. refl)
    (λ ours. all_whole (column_of (codes "place") Integer false) (drop 1 extras_table.columns) (old.now.trees 14) (only_typed schema_1 old.now.trees extras_table (old.now.trees 14) (obeyed old.now ours Datatype).1.1.1.1.1.0) (obeyed old.now ours NotNull).1.1.1.1.1.0 refl)

pub policy_listing : (old new : State) (rows : List Row) → old.now.schema ≡ schema_1 → IsLive old → Shown SELECT_POLICY.now [] old new rows → IsListing 1 (old.now.trees 15) rows
policy_listing old new rows =
    listing 1 15 _ SELECT_POLICY.now _ old new rows select_policy_means (λ r. refl)
    (λ ours. all_whole (column_of (codes "k") Integer false) (drop 1 policy_table.columns) (old.now.trees 15) (only_typed schema_1 old.now.trees policy_table (old.now.trees 15) (obeyed old.now ours Datatype).1.1.1.1.1.1.0) (obeyed old.now ours NotNull).1.1.1.1.1.1.0 refl)

-- ---- rows of a kind

cells_whole : (count : ℕ) (row : Row) → IsWhole count row → tree_cells row ≡ map cell_in (without_key count row)
cells_whole count row whole = ap tree_cells (sym whole)

module _ {T : Type 0} (cells : T → List Cell) (Typed : T → Type 0) (read : List Cell → Option T) (reads : Reads cells Typed read) (ours : (x : T) → AllByRecursion IsOfOurs (cells x)) where
  read_again : (count : ℕ) (row : Row) (x : T) → IsWhole count row → without_key count row ≡ shown_row (cells x) → IsReadable cells Typed x → read (tree_cells row) ≡ Some x
  read_again count row x whole shows good = ap read (cells_whole count row whole ∙ ap (map cell_in) shows ∙ all_given_back (cells x) good.1) ∙ (reads (cells x)).only x good.0 refl

  read_is : (count : ℕ) (row : Row) (x : T) → IsWhole count row → read (tree_cells row) ≡ Some x → (without_key count row ≡ shown_row (cells x)) × IsReadable cells Typed x
  read_is count row x whole is =
      subst (λ o. IfSome o (λ y. (without_key count row ≡ shown_row (cells y)) × IsReadable cells Typed y)) is
      (read_back cells Typed (tree_cells row) (without_key count row) (read (tree_cells row)) ours (cells_whole count row whole) (reads (tree_cells row)))

  read_none : (count : ℕ) (row shown : Row) → IsWhole count row → without_key count row ≡ shown → ((x : T) → shown ≡ shown_row (cells x) → IsReadable cells Typed x → ⊥) → is_some (read (tree_cells row)) ≡ false
  read_none count row shown whole shows none = go (read (tree_cells row)) refl
    where
      go : (o : Option T) → read (tree_cells row) ≡ o → is_some (read (tree_cells row)) ≡ false
      go None e = ap is_some e
      go (Some x) e = let found = read_is count row x whole e in absurd (none x (sym shows ∙ found.0) found.1)

  values_shown : (count : ℕ) (rows : List Row) (xs : List T) → AllByRecursion (IsWhole count) rows → map (without_key count) rows ≡ map (λ x. shown_row (cells x)) xs → AllByRecursion (IsReadable cells Typed) xs
      → values_in read rows ≡ Some xs
  values_shown count [] [] whole shows good = refl
  values_shown count [] (x ∷ xs) whole shows good = absurd (cc (shows))
  values_shown count (r ∷ rs) [] whole shows good = absurd (cc (shows))
  values_shown count (r ∷ rs) (x ∷ xs) whole shows good =
      let head : without_key count r ≡ shown_row (cells x) = cc (shows) in
      let tail : map (without_key count) rs ≡ map (λ y. shown_row (cells y)) xs = cc (shows) in
      rw (read_again count r x whole.0 head good.0, values_shown count rs xs whole.1 tail good.1) refl

  first_shown : (k : Kind) (count : ℕ) (rows : List Row) (before : List T) (row : Row) (behind : List Row) → AllByRecursion (IsWhole count) rows
      → map (without_key count) rows ≡ map (λ x. shown_row (cells x)) before ++ row ∷ behind → AllByRecursion (IsReadable cells Typed) before
      → ((x : T) → row ≡ shown_row (cells x) → IsReadable cells Typed x → ⊥) → first_unread k read rows ≡ Some (damage_of k (id_in row))
  first_shown k count [] [] row behind whole shows good none = absurd (cc (shows))
  first_shown k count [] (x ∷ xs) row behind whole shows good none = absurd (cc (shows))
  first_shown k count (r ∷ rs) [] row behind whole shows good none =
      let head : without_key count r ≡ row = cc (shows) in
      let id : id_in r ≡ id_in row = ap id_in head in
      rw (read_none count r row whole.0 head none) (ap (λ n. Some (damage_of k n)) id)
  first_shown k count (r ∷ rs) (x ∷ xs) row behind whole shows good none =
      let head : without_key count r ≡ shown_row (cells x) = cc (shows) in
      let tail : map (without_key count) rs ≡ map (λ y. shown_row (cells y)) xs ++ row ∷ behind = cc (shows) in
      rw (read_again count r x whole.0 head good.0) (first_shown k count rs xs row behind whole.1 tail good.1 none)

  -- what a reading of such rows finds
  pub finds_all : (k : Kind) (count : ℕ) (tree : List Row) (Showing : List Row → Type 0) (r : Result (List T) LoadFault) → ((rows : List Row) → Showing rows → IsListing count tree rows)
      → IfOk r (λ xs. Showing (map (λ x. shown_row (cells x)) xs) × AllByRecursion (IsReadable cells Typed) xs)
      → IfErr r (NamesDamage (λ d. (rows : List Row) × Showing rows × IsFirstUnread cells Typed k rows d)) → FindsAll k read tree r
  finds_all k count tree Showing (Ok xs) list back unread =
      let it = list (map (λ x. shown_row (cells x)) xs) back.0 in
      (it.them, it.ordered, values_shown count it.them xs it.whole (sym it.are) back.1)
  finds_all k count tree Showing (Err e) list back unread =
      names_weaker (λ d. (rows : List Row) × Showing rows × IsFirstUnread cells Typed k rows d) (λ d. (rows : List Row) × AreInOrder tree rows × (first_unread k read rows ≡ Some d)) e
      (λ d h.
      let it = list h.0 h.1 in
      (it.them, it.ordered, first_shown k count it.them h.2.before h.2.row h.2.behind it.whole (sym it.are ∙ h.2.are) h.2.readable h.2.none ∙ ap (λ x. Some x) (sym h.2.is))) unread

splits : (rows : List Row) (i : ℕ) (row : Row) → i < length rows → row ≡ get_or rows i row → rows ≡ take i rows ++ row ∷ drop (suc i) rows
splits [] i row less is = absurd (omega (arith, less))
splits (r ∷ rs) zero row less is = ap (λ x. x ∷ rs) (sym is)
splits (r ∷ rs) (suc i) row less is = ap (λ l. r ∷ l) (splits rs i row (omega (arith, less)) is)

-- the row at a place, behind rows that were read
pub unread_here : {T : Type 0} (cells : T → List Cell) (Typed : T → Type 0) (k : Kind) (rows : List Row) (i : ℕ) (row : Row) (all : List T) (e : LoadFault) → i < length rows → row ≡ get_or rows i row
    → AreReadSo cells Typed (take i rows) all → ((x : T) → row ≡ shown_row (cells x) → IsReadable cells Typed x → IsOutside e) → NamesDamage (λ d. d ≡ damage_of k (id_in row)) e → NamesDamage (IsFirstUnread cells Typed k rows) e
unread_here cells Typed k rows i row all Failed less at so none is = tt
unread_here cells Typed k rows i row all (Damaged j id) less at so none is = record {
  before = all;
  row = row;
  behind = drop (suc i) rows;
  are = splits rows i row less at ∙ ap (λ l. l ++ row ∷ drop (suc i) rows) so.shows;
  readable = so.readable;
  none = none;
  is = is;
}
unread_here cells Typed k rows i row all NoMemory less at so none is = tt

-- ---- rows without ids

unread_one : {X : Type 0} (k : Kind) (values : List Row → Option X) (tree rows : List Row) (e : LoadFault) → AreInOrder tree rows → ((x : X) → values rows ≡ Some x → IsOutside e) → NamesDamage (λ d. d ≡ damage_of k 0) e
    → NamesDamage (λ d. (them : List Row) × AreInOrder tree them × (unless_read k values them ≡ Some d)) e
unread_one k values tree rows Failed ordered none is = tt
unread_one {X} k values tree rows (Damaged j id) ordered none is = (rows, ordered, go (values rows) refl)
  where
    go : (o : Option X) → values rows ≡ o → unless_read k values rows ≡ Some (damage_of j id)
    go None e = rw e (ap (λ d. Some d) (sym is))
    go (Some x) e = absurd (none x e)
unread_one k values tree rows NoMemory ordered none is = tt

meta_given : (next : Counters) → IsTypedCounters next → IsReadable meta_cells IsTypedCounters next
meta_given next typed = (typed, (tt, (tt, (tt, (tt, (tt, (tt, tt)))))))

next_shown : (rows : List Row) (next : Counters) → AllByRecursion (IsWhole 5) rows → map (without_key 5) rows ≡ shown_row (meta_cells next) ∷ [] → IsTypedCounters next → next_in rows ≡ Some next
next_shown [] next whole shows typed = absurd (cc (shows))
next_shown (r ∷ []) next whole shows typed =
    let head : without_key 5 r ≡ shown_row (meta_cells next) = cc (shows) in
    read_again meta_cells IsTypedCounters meta_of meta_reads meta_ours 5 r next whole.0 head (meta_given next typed)
next_shown (r ∷ s ∷ rs) next whole shows typed = absurd (cc (shows))

next_is : (rows : List Row) (next : Counters) → AllByRecursion (IsWhole 5) rows → next_in rows ≡ Some next → (map (without_key 5) rows ≡ shown_row (meta_cells next) ∷ []) × IsTypedCounters next
next_is [] next whole is = absurd (cc (is))
next_is (r ∷ []) next whole is = let found = read_is meta_cells IsTypedCounters meta_of meta_reads meta_ours 5 r next whole.0 is in (ap (λ l. l ∷ []) found.0, found.1.0)
next_is (r ∷ s ∷ rs) next whole is = absurd (cc (is))

pub finds_next : (tree rows : List Row) (r : Result Counters LoadFault) → IsListing 5 tree rows → ((next : Counters) → rows ≡ shown_row (meta_cells next) ∷ [] → IsTypedCounters next → Yields r next)
    → IfOk r (λ next. (rows ≡ shown_row (meta_cells next) ∷ []) × IsTypedCounters next) → IfErr r (NamesDamage (λ d. d ≡ damage_of kind.Meta 0)) → FindsOne kind.Meta next_in tree r
finds_next tree rows (Ok next) it read back damaged = (it.them, it.ordered, next_shown it.them next it.whole (sym it.are ∙ back.0) back.1)
finds_next tree rows (Err e) it read back damaged =
    unread_one kind.Meta next_in tree it.them e it.ordered (λ next is. let found = next_is it.them next it.whole is in read next (it.are ∙ found.0) found.1) damaged

abbrev policy_shows : Option (List ℕ) → List Row
policy_shows policy = map (λ body. shown_row (policy_cells body)) (option_to_list policy)

abbrev IsPolicyUtf8 : Option (List ℕ) → Type 0
IsPolicyUtf8 policy = IfSome policy (λ body. is_utf8 body ≡ true)

policy_shown : (rows : List Row) (policy : Option (List ℕ)) → AllByRecursion (IsWhole 1) rows → map (without_key 1) rows ≡ policy_shows policy → IsPolicyUtf8 policy → policy_in_rows rows ≡ Some policy
policy_shown [] None whole shows good = refl
policy_shown [] (Some body) whole shows good = absurd (cc (shows))
policy_shown (r ∷ []) None whole shows good = absurd (cc (shows))
policy_shown (r ∷ []) (Some body) whole shows good =
    let head : without_key 1 r ≡ shown_row (policy_cells body) = cc (shows) in
    ap (option_map (λ b. Some b)) (read_again policy_cells (λ _. Unit {0}) policy_in_cells policy_reads policy_ours 1 r body whole.0 head (tt, (tt, (good, tt))))
policy_shown (r ∷ s ∷ rs) None whole shows good = absurd (cc (shows))
policy_shown (r ∷ s ∷ rs) (Some body) whole shows good = absurd (cc (shows))

policy_is : (rows : List Row) (policy : Option (List ℕ)) → AllByRecursion (IsWhole 1) rows → policy_in_rows rows ≡ Some policy → (map (without_key 1) rows ≡ policy_shows policy) × IsPolicyUtf8 policy
policy_is [] policy whole is = let e : None ≡ policy = cc (is) in subst (λ p. ([] ≡ policy_shows p) × IsPolicyUtf8 p) e (refl, tt)
policy_is (r ∷ []) policy whole is = go (policy_in_cells (tree_cells r)) refl is
  where
    go : (o : Option (List ℕ)) → policy_in_cells (tree_cells r) ≡ o → option_map (λ b. Some b) o ≡ Some policy → ((without_key 1 r ∷ []) ≡ policy_shows policy) × IsPolicyUtf8 policy
    go None p e = absurd (cc (e))
    go (Some body) p e =
        let found = read_is policy_cells (λ _. Unit {0}) policy_in_cells policy_reads policy_ours 1 r body whole.0 p in
        let same : Some body ≡ policy = cc (e) in
        subst (λ q. ((without_key 1 r ∷ []) ≡ policy_shows q) × IsPolicyUtf8 q) same (ap (λ l. l ∷ []) found.0, found.1.1.1.0)
policy_is (r ∷ s ∷ rs) policy whole is = absurd (cc (is))

pub finds_policy : (tree rows : List Row) (r : Result (Option (List ℕ)) LoadFault) → IsListing 1 tree rows → ((policy : Option (List ℕ)) → rows ≡ policy_shows policy → IsPolicyUtf8 policy → Yields r policy)
    → IfOk r (λ policy. (rows ≡ policy_shows policy) × IsPolicyUtf8 policy) → IfErr r (NamesDamage (λ d. d ≡ damage_of kind.Policy 0)) → FindsOne kind.Policy policy_in_rows tree r
finds_policy tree rows (Ok policy) it read back damaged = (it.them, it.ordered, policy_shown it.them policy it.whole (sym it.are ∙ back.0) back.1)
finds_policy tree rows (Err e) it read back damaged =
    unread_one kind.Policy policy_in_rows tree it.them e it.ordered (λ policy is. let found = policy_is it.them policy it.whole is in read policy (it.are ∙ found.0) found.1) damaged

extras_shown : (place : ℕ) (rows : List Row) (xs : List DnsExtra) → AllByRecursion (IsWhole 2) rows → map (without_key 2) rows ≡ shown_extras place xs → AllByRecursion IsReadableExtra xs → extras_in place rows ≡ Some xs
extras_shown place [] [] whole shows good = refl
extras_shown place [] (x ∷ xs) whole shows good = absurd (cc (shows))
extras_shown place (r ∷ rs) [] whole shows good = absurd (cc (shows))
extras_shown place (r ∷ rs) (x ∷ xs) whole shows good =
    let head : without_key 2 r ≡ shown_row (extra_cells place x) = cc (shows) in
    let tail : map (without_key 2) rs ≡ shown_extras (place + 1) xs = cc (shows) in
    let one = read_again (extra_cells place) IsTypedExtra (extra_of place) (extra_reads place) (extra_ours place) 2 r x whole.0 head (good.0.0, (tt, (good.0.1, (good.0.2, tt)))) in
    rw (one, extras_shown (place + 1) rs xs whole.1 tail good.1) refl

extras_are : (place : ℕ) (rows : List Row) (xs : List DnsExtra) → AllByRecursion (IsWhole 2) rows → extras_in place rows ≡ Some xs → (map (without_key 2) rows ≡ shown_extras place xs) × AllByRecursion IsReadableExtra xs
extras_are place [] xs whole is = let e : [] ≡ xs = cc (is) in subst (λ ys. ([] ≡ shown_extras place ys) × AllByRecursion IsReadableExtra ys) e (refl, tt)
extras_are place (r ∷ rs) xs whole is = go (extra_of place (tree_cells r)) (extras_in (place + 1) rs) refl refl is (λ ys. extras_are (place + 1) rs ys whole.1)
  where
    go : (o : Option DnsExtra) (os : Option (List DnsExtra)) → extra_of place (tree_cells r) ≡ o → extras_in (place + 1) rs ≡ os → option_and_then (λ x. option_map (λ ys. x ∷ ys) os) o ≡ Some xs
        → ((ys : List DnsExtra) → extras_in (place + 1) rs ≡ Some ys → (map (without_key 2) rs ≡ shown_extras (place + 1) ys) × AllByRecursion IsReadableExtra ys)
        → ((without_key 2 r ∷ map (without_key 2) rs) ≡ shown_extras place xs) × AllByRecursion IsReadableExtra xs
    go None os p q e more = absurd (cc (e))
    go (Some x) None p q e more = absurd (cc (e))
    go (Some x) (Some ys) p q e more =
        let one = read_is (extra_cells place) IsTypedExtra (extra_of place) (extra_reads place) (extra_ours place) 2 r x whole.0 p in
        let others = more ys q in
        let same : x ∷ ys ≡ xs = cc (e) in
        subst (λ zs. ((without_key 2 r ∷ map (without_key 2) rs) ≡ shown_extras place zs) × AllByRecursion IsReadableExtra zs) same
        (ap₂ ◌∷◌ one.0 others.0, ((one.1.0, one.1.1.1.0, one.1.1.1.1.0), others.1))

pub finds_extras : (tree rows : List Row) (r : Result (List DnsExtra) LoadFault) → IsListing 2 tree rows → ((xs : List DnsExtra) → rows ≡ shown_extras 1 xs → AllByRecursion IsReadableExtra xs → Yields r xs)
    → IfOk r (λ xs. (rows ≡ shown_extras 1 xs) × AllByRecursion IsReadableExtra xs) → IfErr r (NamesDamage (λ d. d ≡ damage_of kind.Extras 0)) → FindsOne kind.Extras (extras_in 1) tree r
finds_extras tree rows (Ok xs) it read back damaged = (it.them, it.ordered, extras_shown 1 it.them xs it.whole (sym it.are ∙ back.0) back.1)
finds_extras tree rows (Err e) it read back damaged =
    unread_one kind.Extras (extras_in 1) tree it.them e it.ordered (λ xs is. let found = extras_are 1 it.them xs it.whole is in read xs (it.are ∙ found.0) found.1) damaged

-- ---- one behind the other

pub found_here : {X : Type 0} (values : List Row → Option X) (first : List Row → Option Damage) (tree : List Row) (behind : X → Damage → Type 0) (e : LoadFault)
    → Finds values first tree (Err e) → NamesDamage (IsFoundIn values first tree behind) e
found_here values first tree behind e h =
    names_weaker (λ d. (rows : List Row) × AreInOrder tree rows × (first rows ≡ Some d)) (IsFoundIn values first tree behind) e (λ d f. (f.0, f.1, inl f.2)) h

pub found_behind : {X : Type 0} (values : List Row → Option X) (first : List Row → Option Damage) (tree : List Row) (behind : X → Damage → Type 0) (x : X) (e : LoadFault)
    → Finds values first tree (Ok x) → NamesDamage (behind x) e → NamesDamage (IsFoundIn values first tree behind) e
found_behind values first tree behind x e found h = names_weaker (behind x) (IsFoundIn values first tree behind) e (λ d g. (found.0, found.1, inr (x, found.2, g))) h

pub found_after : {X : Type 0} (values : List Row → Option X) (first : List Row → Option Damage) (tree : List Row) (behind : X → Damage → Type 0) (x : X) (d : Damage)
    → Finds values first tree (Ok x) → behind x d → IsFoundIn values first tree behind d
found_after values first tree behind x d found h = (found.0, found.1, inr (x, found.2, h))
