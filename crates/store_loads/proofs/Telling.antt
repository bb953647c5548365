-- A store tells rows exactly where its database keeps them.
use Rattle.std.proofs.Common.{◌≡◌, ◌⊎◌, ◌+◌, inl, inr, ℕ, Bool, true, false, cond, ◌&&◌, List, [], ◌∷◌, map, Option, Some, None, is_none, IfSome, IsTrue, refl, sym, ap, ap₂, subst, ◌∙◌, IsPermutation}
use Rattle.std.specs.List.{AllByRecursion}
use Rattle.std.specs.Option.{option_and_then, option_map}
use Rattle.std.specs.Str.{is_utf8}
use Rattle.net_rows.specs.Damage.{damage}
use Rattle.net_rows.specs.Rows.{empty_rows}
use Rattle.net_rows.specs.declared.change.Counters.{Counters}
use Rattle.net_rows.specs.declared.change.Damage.{Damage}
use Rattle.net_rows.specs.declared.key.AuthKey.{AuthKey}
use Rattle.net_rows.specs.declared.machine.Machine.{Machine}
use Rattle.net_rows.specs.declared.pending.Pending.{Pending}
use Rattle.net_rows.specs.declared.rows.Rows.{Rows}
use Rattle.net_rows.specs.declared.user.User.{User}
use Rattle.net_rows.proofs.Sounds.{sound_of}
use Rattle.sqlite.specs.Effect.{Database}
use Rattle.sqlite.specs.State.{HasCleanDisk, State}
use Rattle.sqlite_keyed.proofs.SortLemmas.{IsPermutation-sort_by}
use Rattle.sqlite_trees.proofs.Doubt.{clean_of, no_doubt}
use Rattle.sqlite_trees.specs.Tree.{Trees, rowid}
use Rattle.sqlite_value.proofs.OrderLemmas.{value_cmp_total}
use Rattle.sqlite_value.specs.Order.{Row, value_cmp}
use Rattle.std.proofs.lemmas.Cmp.{on_total}
use Rattle.store_commits.specs.Kept.{AreById, AreStored, HoldsInTree, placed_rows, policy_row, tree_row}
use Rattle.store_commits.proofs.KeptLists.{extra_rest, placed_are, with_places}
use Rattle.store_reads.specs.Readable.{AreReadable, IsReadableExtra}
use Rattle.store_reads.proofs.Lists.{rising}
use Rattle.store_reads.proofs.OursLemmas.{auth_key_ours, extra_ours, machine_ours, meta_ours, pending_ours, policy_ours, user_ours}
use Rattle.store_reads.proofs.ShownRows.{places_rise}
use Rattle.store_rows.specs.Reading.{auth_key_of, extra_of, machine_in_cells, meta_of, pending_in_cells, policy_in_cells, user_in_cells}
use Rattle.store_rows.specs.Rows.{IsTypedCounters, IsTypedExtra, IsTypedKey, IsTypedMachine, IsTypedPending, IsTypedUser, auth_key_cells, extra_cells, machine_cells, meta_cells, pending_cells, policy_cells, user_cells}
use Rattle.store_rows.proofs.TableReads.{auth_key_reads, extra_reads, machine_reads, meta_reads, pending_reads, policy_reads, user_reads}
use Rattle.store_sql.proofs.Lists.{row_of}
use Rattle.store_sql.specs.Schema.{no_schema, schema_1}
use Rattle.tailcfg.specs.declared.dns.DnsExtra.{DnsExtra}
use Rattle.store_loads.specs.Tells.{Holds}
use Rattle.store_loads.specs.Told.{extras_in, if_sound, in_order, is_schema, next_in, policy_in_rows, rows_of, tables_in, store_tells, tree_cells, values_in}
use Rattle.store_loads.proofs.Schemas.{none_is_not_ours}
use Rattle.store_loads.proofs.TellTrees.{in_order_is, is_itself, rows_rise, schema_is, some_is, value_again, value_is, values_again, values_are}

-- ---- options

record Chosen {A B : Type 0} (o : Option A) (f : A → Option B) (b : B) : Type 0 where
  it : A
  is : o ≡ Some it
  gives : f it ≡ Some b

chosen : {A B : Type 0} (o : Option A) (f : A → Option B) (b : B) → option_and_then f o ≡ Some b → Chosen o f b
chosen None f b h = absurd (cc (h))
chosen (Some a) f b h = record { it = a; is = refl; gives = h }

record Mapped {A B : Type 0} (o : Option A) (f : A → B) (b : B) : Type 0 where
  it : A
  is : o ≡ Some it
  gives : f it ≡ b

mapped : {A B : Type 0} (o : Option A) (f : A → B) (b : B) → option_map f o ≡ Some b → Mapped o f b
mapped None f b h = absurd (cc (h))
mapped (Some a) f b h = record { it = a; is = refl; gives = some_is h }

-- ---- single tables

next_are : (rows : List Row) (next : Counters) → next_in rows ≡ Some next → (rows ≡ tree_row (meta_cells next) ∷ []) × IsTypedCounters next
next_are [] next h = absurd (cc (h))
next_are (row ∷ []) next h = let one = value_is meta_cells IsTypedCounters meta_of meta_reads meta_ours (λ x e. cc (e)) row next h in (ap (λ r. r ∷ []) one.0, one.1.0)
next_are (row ∷ other ∷ rows) next h = absurd (cc (h))

next_again : (next : Counters) → IsTypedCounters next → next_in (tree_row (meta_cells next) ∷ []) ≡ Some next
next_again next typed = value_again meta_cells IsTypedCounters meta_of meta_reads meta_ours (λ x e. cc (e)) next (typed, (tt, (tt, (tt, (tt, (tt, (tt, tt)))))))

policy_are : (rows : List Row) (policy : Option (List ℕ)) → policy_in_rows rows ≡ Some policy → (rows ≡ policy_row policy) × IfSome policy (λ body. is_utf8 body ≡ true)
policy_are [] policy h = let e : None ≡ policy = some_is h in subst (λ p. ([] ≡ policy_row p) × IfSome p (λ body. is_utf8 body ≡ true)) e (refl, tt)
policy_are (row ∷ []) policy h =
    let it = mapped (policy_in_cells (tree_cells row)) (λ body. Some body) policy h in
    let one = value_is policy_cells (λ _. Unit {0}) policy_in_cells policy_reads policy_ours (λ x e. cc (e)) row it.it it.is in
    subst (λ p. ((row ∷ []) ≡ policy_row p) × IfSome p (λ body. is_utf8 body ≡ true)) it.gives (ap (λ r. r ∷ []) one.0, one.1.1.1.0)
policy_are (row ∷ other ∷ rows) policy h = absurd (cc (h))

policy_again : (policy : Option (List ℕ)) → IfSome policy (λ body. is_utf8 body ≡ true) → policy_in_rows (policy_row policy) ≡ Some policy
policy_again None h = refl
policy_again (Some body) h = ap (option_map (λ b. Some b)) (value_again policy_cells (λ _. Unit {0}) policy_in_cells policy_reads policy_ours (λ x e. cc (e)) body (tt, (tt, (h, tt))))

extras_are : (place : ℕ) (rows : List Row) (xs : List DnsExtra) → extras_in place rows ≡ Some xs → (rows ≡ placed_rows place xs) × AllByRecursion IsReadableExtra xs
extras_are place [] xs h = let e : [] ≡ xs = some_is h in subst (λ ys. ([] ≡ placed_rows place ys) × AllByRecursion IsReadableExtra ys) e (refl, tt)
extras_are place (row ∷ rows) xs h =
    let first = chosen (extra_of place (tree_cells row)) (λ x. option_map (λ ys. x ∷ ys) (extras_in (place + 1) rows)) xs h in
    let rest = mapped (extras_in (place + 1) rows) (λ ys. first.it ∷ ys) xs first.gives in
    let one = value_is (extra_cells place) IsTypedExtra (extra_of place) (extra_reads place) (extra_ours place) (λ x e. cc (e)) row first.it first.is in
    let more = extras_are (place + 1) rows rest.it rest.is in
    subst (λ ys. ((row ∷ rows) ≡ placed_rows place ys) × AllByRecursion IsReadableExtra ys) rest.gives (ap₂ ◌∷◌ one.0 more.0, ((one.1.0, one.1.1.1.0, one.1.1.1.1.0), more.1))

extras_again : (place : ℕ) (xs : List DnsExtra) → AllByRecursion IsReadableExtra xs → extras_in place (placed_rows place xs) ≡ Some xs
extras_again place [] good = refl
extras_again place (x ∷ xs) good =
    let one = value_again (extra_cells place) IsTypedExtra (extra_of place) (extra_reads place) (extra_ours place) (λ y e. cc (e)) x (good.0.0, (tt, (good.0.1, (good.0.2, tt)))) in
    rw (one, extras_again (place + 1) xs good.1) refl

-- ---- all tables

ordered_tree : (tree rows : List Row) → in_order tree ≡ rows → HoldsInTree tree rows
ordered_tree tree rows e = subst (λ l. IsPermutation l tree) e (IsPermutation-sort_by (λ a b. value_cmp (rowid a) (rowid b)) (on_total rowid value_cmp_total) tree)

-- the rows of the trees stand in them, and are readable
tables_are : (trees : Trees) (rows : Rows) → tables_in trees ≡ Some rows → AreStored trees rows × AreReadable rows
tables_are trees rows h =
    let next = chosen (next_in (trees 0)) _ rows h in
    let users = chosen (values_in user_in_cells (in_order (trees 1))) _ rows next.gives in
    let keys = chosen (values_in auth_key_of (in_order (trees 3))) _ rows users.gives in
    let pending = chosen (values_in pending_in_cells (in_order (trees 5))) _ rows keys.gives in
    let machines = chosen (values_in machine_in_cells (in_order (trees 8))) _ rows pending.gives in
    let extras = chosen (extras_in 1 (in_order (trees 14))) _ rows machines.gives in
    let policy = mapped (policy_in_rows (trees 15)) _ rows extras.gives in
    let a = next_are (trees 0) next.it next.is in
    let b = values_are user_cells IsTypedUser user_in_cells user_reads user_ours (λ x e. cc (e)) (in_order (trees 1)) users.it users.is in
    let c = values_are auth_key_cells IsTypedKey auth_key_of auth_key_reads auth_key_ours (λ x e. cc (e)) (in_order (trees 3)) keys.it keys.is in
    let d = values_are pending_cells IsTypedPending pending_in_cells pending_reads pending_ours (λ x e. cc (e)) (in_order (trees 5)) pending.it pending.is in
    let e = values_are machine_cells IsTypedMachine machine_in_cells machine_reads machine_ours (λ x e. cc (e)) (in_order (trees 8)) machines.it machines.is in
    let f = extras_are 1 (in_order (trees 14)) extras.it extras.is in
    let p = policy_are (trees 15) policy.it policy.is in
    subst (λ (r : Rows). AreStored trees r × AreReadable r) policy.gives (
      record {
        meta = a.0;
        users = ordered_tree (trees 1) _ b.0;
        keys = ordered_tree (trees 3) _ c.0;
        pending = ordered_tree (trees 5) _ d.0;
        machines = ordered_tree (trees 8) _ e.0;
        extras = ordered_tree (trees 14) _ f.0;
        policy = p.0;
      },
      record { next = a.1; users = b.1; keys = c.1; pending = d.1; machines = e.1; extras = f.1; policy = p.1 },
    )

-- and rows that stand in the trees, by rising ids, are told
tables_again : (trees : Trees) (rows : Rows) → AreStored trees rows → AreById rows → AreReadable rows → tables_in trees ≡ Some rows
tables_again trees rows stored by good =
    let user_id = λ (r : User). r.id in
    let key_id = λ (r : AuthKey). r.id in
    let pending_id = λ (r : Pending). r.id in
    let machine_id = λ (r : Machine). r.id in
    let place : ℕ × DnsExtra → ℕ = λ q. q.0 in
    let a : next_in (trees 0) ≡ Some rows.next = ap next_in stored.meta ∙ next_again rows.next good.next in
    let b = in_order_is _ (trees 1) (rows_rise user_id (λ x. tree_row (user_cells x)) (λ x. refl) rows.users (rising user_id rows.users by.users)) stored.users in
    let c = in_order_is _ (trees 3) (rows_rise key_id (λ x. tree_row (auth_key_cells x)) (λ x. refl) rows.keys (rising key_id rows.keys by.keys)) stored.keys in
    let d = in_order_is _ (trees 5) (rows_rise pending_id (λ x. tree_row (pending_cells x)) (λ x. refl) rows.pending (rising pending_id rows.pending by.pending)) stored.pending in
    let e = in_order_is _ (trees 8) (rows_rise machine_id (λ x. tree_row (machine_cells x)) (λ x. refl) rows.machines (rising machine_id rows.machines by.machines)) stored.machines in
    let f = in_order_is (map (row_of place extra_rest) (with_places 1 rows.extras)) (trees 14) (rows_rise place (row_of place extra_rest) (λ x. refl) (with_places 1 rows.extras) (places_rise 1 rows.extras))
    (subst (λ l. IsPermutation l (trees 14)) (placed_are 1 rows.extras) stored.extras) in
    let users = ap (values_in user_in_cells) b ∙ values_again user_cells IsTypedUser user_in_cells user_reads user_ours (λ x e. cc (e)) rows.users good.users in
    let keys = ap (values_in auth_key_of) c ∙ values_again auth_key_cells IsTypedKey auth_key_of auth_key_reads auth_key_ours (λ x e. cc (e)) rows.keys good.keys in
    let pending = ap (values_in pending_in_cells) d ∙ values_again pending_cells IsTypedPending pending_in_cells pending_reads pending_ours (λ x e. cc (e)) rows.pending good.pending in
    let machines = ap (values_in machine_in_cells) e ∙ values_again machine_cells IsTypedMachine machine_in_cells machine_reads machine_ours (λ x e. cc (e)) rows.machines good.machines in
    let extras = ap (extras_in 1) (f ∙ sym (placed_are 1 rows.extras)) ∙ extras_again 1 rows.extras good.extras in
    let policy = ap policy_in_rows stored.policy ∙ policy_again rows.policy good.policy in
    rw (a, users, keys, pending, machines, extras, policy) refl

-- ---- what is known

pub by_id_of : (rows : Rows) → damage rows ≡ None → AreById rows
by_id_of rows none = let sound = sound_of rows none in record { users = sound.users.ascend; keys = sound.keys.ascend; pending = sound.pending.ascend; machines = sound.machines.ascend }

sound_is : (found : Option Damage) (rows other : Rows) → damage rows ≡ found → cond (is_none found) (Some rows) None ≡ Some other → (damage rows ≡ None) × (rows ≡ other)
sound_is None rows other is h = (is, some_is h)
sound_is (Some d) rows other is h = absurd (cc (h))

-- what a database tells, it holds, or it has nothing
pub rows_are : (db : Database) (rows : Rows) → rows_of db ≡ Some rows → Holds db rows ⊎ ((db.schema ≡ no_schema) × (rows ≡ empty_rows))
unfolding rows_of
rows_are db rows h = go (is_schema db.schema schema_1) (is_schema db.schema no_schema) refl refl h
  where
    go : (a b : Bool) → is_schema db.schema schema_1 ≡ a → is_schema db.schema no_schema ≡ b
        → cond a (option_and_then if_sound (tables_in db.trees)) (cond b (Some empty_rows) None) ≡ Some rows → Holds db rows ⊎ ((db.schema ≡ no_schema) × (rows ≡ empty_rows))
    go true b ours none e =
        let it = chosen (tables_in db.trees) if_sound rows e in
        let sound = sound_is (damage it.it) it.it rows refl it.gives in
        let stand = subst (λ (r : Rows). AreStored db.trees r × AreReadable r) sound.1 (tables_are db.trees it.it it.is) in
        let none_broken = subst (λ (r : Rows). damage r ≡ None) sound.1 sound.0 in
        inl (record { keeps = record { schema = schema_is db.schema schema_1 ours; stored = stand.0; ordered = by_id_of rows none_broken }; readable = stand.1; sound = none_broken })
    go false true ours none e = inr (schema_is db.schema no_schema none, sym (some_is e))
    go false false ours none e = absurd (cc (e))

pub rows_again : (db : Database) (rows : Rows) → Holds db rows → rows_of db ≡ Some rows
unfolding rows_of
rows_again db rows holds =
    rw (is_itself db.schema schema_1 holds.keeps.schema, tables_again db.trees rows holds.keeps.stored holds.keeps.ordered holds.readable, holds.sound) refl

none_again : (db : Database) → db.schema ≡ no_schema → rows_of db ≡ Some empty_rows
unfolding rows_of
none_again db none = rw (not_ours (is_schema db.schema schema_1) refl, is_itself db.schema no_schema none) refl
  where
    not_ours : (b : Bool) → is_schema db.schema schema_1 ≡ b → is_schema db.schema schema_1 ≡ false
    not_ours true is = absurd (none_is_not_ours db.schema (schema_is db.schema schema_1 is) none)
    not_ours false is = is

-- what a store tells
pub record Tells (s : State) (rows : Rows) : Type 0 where
  pub clean : HasCleanDisk s
  pub opened : IsTrue s.is_open
  pub stands : Holds s.now rows ⊎ ((s.now.schema ≡ no_schema) × (rows ≡ empty_rows))

pub told_is : (s : State) (rows : Rows) → store_tells s ≡ Some rows → Tells s rows
unfolding store_tells
told_is s rows h = go s.is_clean s.is_open refl refl h
  where
    go : (a b : Bool) → s.is_clean ≡ a → s.is_open ≡ b → cond (a && b) (rows_of s.now) None ≡ Some rows → Tells s rows
    go true true clean opened e = record { clean = no_doubt s.is_clean clean; opened = opened; stands = rows_are s.now rows e }
    go true false clean opened e = absurd (cc (e))
    go false b clean opened e = absurd (cc (e))

told_by : (s : State) → HasCleanDisk s → IsTrue s.is_open → store_tells s ≡ rows_of s.now
unfolding store_tells
told_by s clean opened = rw (clean_of s.is_clean clean, opened) refl

-- a clean, open store tells what it holds
pub holds_told : (s : State) (rows : Rows) → HasCleanDisk s → IsTrue s.is_open → Holds s.now rows → store_tells s ≡ Some rows
holds_told s rows clean opened holds = told_by s clean opened ∙ rows_again s.now rows holds

pub none_told : (s : State) → HasCleanDisk s → IsTrue s.is_open → s.now.schema ≡ no_schema → store_tells s ≡ Some empty_rows
none_told s clean opened none = told_by s clean opened ∙ none_again s.now none

-- stores that are clean and open and show the same tell the same
pub same_told : (old new : State) (rows : Rows) → HasCleanDisk old → IsTrue old.is_open → new.now ≡ old.now → store_tells new ≡ Some rows → store_tells old ≡ Some rows
same_told old new rows clean opened same h =
    let there = told_is new rows h in
    told_by old clean opened ∙ ap rows_of (sym same) ∙ sym (told_by new there.clean there.opened) ∙ h
