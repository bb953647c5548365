-- What each statement of a change makes of the rows that a database keeps.
use Rattle.std.proofs.Common.{◌≡◌, ◌+◌, ℕ, ℤ, cond, pos, List, [], ◌∷◌, ◌++◌, map, drop, length, Bool, true, false, Option, None, Some, refl, sym, ap, subst, ◌∙◌, arith, IsPermutation}
use Rattle.sqlite_value.specs.declared.value.Value.TheVariants.{Int, Text}
use Rattle.sqlite_value.specs.Order.{Row}
use Rattle.std.proofs.lemmas.List.Sorted.{IsPermutation-map, IsPermutation-refl}
use Rattle.std.specs.Option.{option_to_list}
use Rattle.sqlite_trees.specs.Tree.{put_row as put_tree}
use Rattle.store_rows.specs.declared.cell.Cell.TheVariants as cell
use Rattle.sqlite_schema.specs.declared.schema.Kind.TheVariants.{Integer}
use Rattle.sqlite_rules.specs.Cast.{cast}
use Rattle.sqlite.specs.Effect.{Database}
use Rattle.net_addr.specs.Bits.{Address}
use Rattle.net_rows.specs.declared.rows.Rows.{Rows}
use Rattle.net_rows.specs.Shelf.{put_row, without}
use Rattle.net_rows.proofs.PutLemmas.{IsAscending-put}
use Rattle.net_rows.proofs.RemoveLemmas.{IsAscending-without}
use Rattle.net_rows.specs.declared.change.Counters.{Counters}
use Rattle.net_rows.specs.declared.change.RowKey.{RowKey}
use Rattle.net_rows.specs.declared.change.RowKey.TheVariants as gone
use Rattle.net_rows.specs.Rows.{take_out}
use Rattle.net_rows.specs.declared.key.AuthKey.{AuthKey}
use Rattle.net_rows.specs.declared.machine.Machine.{Machine}
use Rattle.net_rows.specs.declared.pending.Pending.{Pending}
use Rattle.net_rows.specs.declared.user.User.{User}
use Rattle.store_rows.specs.Addresses.{address_cell, v6_bytes}
use Rattle.store_rows.specs.Cells.{expiry_cell, truth_cell}
use Rattle.store_rows.specs.Rows.{auth_key_cells, extra_cells, machine_cells, meta_cells, pending_cells, policy_cells, user_cells}
use Rattle.store_sql.specs.Ran.{HasRun, IsPutBy}
use Rattle.store_sql.specs.Schema.{schema_1, meta_table, users_table, auth_keys_table, pending_table, machines_table, extras_table, policy_table}
use Rattle.store_sql.specs.declared.texts.TheConstants.{CLEAR_EXTRAS, DELETE_AUTH_KEYS, DELETE_MACHINES, DELETE_PENDING, DELETE_USERS, INSERT_AUTH_KEYS, INSERT_EXTRAS, INSERT_MACHINES, INSERT_META, INSERT_PENDING, INSERT_POLICY, INSERT_USERS, UPDATE_AUTH_KEYS, UPDATE_MACHINES, UPDATE_META, UPDATE_PENDING, UPDATE_POLICY, UPDATE_USERS}
use Rattle.store_sql.proofs.Deletes.{delete_users_means, delete_auth_keys_means, delete_pending_means, delete_machines_means}
use Rattle.store_sql.proofs.Inserts.{insert_users_means, insert_auth_keys_means, insert_pending_means, insert_machines_means, insert_extras_means, insert_meta_means, insert_policy_means}
use Rattle.store_sql.proofs.Updates.{update_users_means, update_auth_keys_means, update_pending_means, update_machines_means, update_meta_means, update_policy_means, clear_extras_means}
use Rattle.store_sql.proofs.Lists.{row_of, left}
use Rattle.store_sql.proofs.Places.{users_place, auth_keys_place, pending_place, machines_place, extras_place, meta_place, policy_place}
use Rattle.store_sql.proofs.Puts.{cast_number, cast_nothing, cast_bytes, puts_row, takes_out, takes_all_out, adds_row}
use Rattle.store_sql.specs.Standing.{SetsRows}
use Rattle.tailcfg.specs.declared.dns.DnsExtra.{DnsExtra}
use Rattle.store_commits.specs.Kept.{AreById, Keeps, Makes, placed_rows, policy_row, tree_row, value_of}
use Rattle.store_commits.specs.Gone.{gone_text, gone_id}
use Rattle.store_commits.specs.Kept.{IsAdded}
use Rattle.store_commits.proofs.KeptLists.{image_of, left_in_order, put_in_place, with_places, extra_rest, placed_are, put_last}

moved : (rows old new : List Row) → new ≡ old → IsPermutation rows old → IsPermutation rows new
moved rows old new e same = subst (IsPermutation rows) (sym e) same

resets : (schema : _) (tree : ℕ) (a b : List Row) (old new : Database) → a ≡ b → SetsRows schema tree a old new → SetsRows schema tree b old new
resets schema tree a b old new e set = subst (λ rows. SetsRows schema tree rows old new) e set

truth_taken : (b : Bool) → cast Integer (value_of (truth_cell b)) ≡ value_of (truth_cell b)
truth_taken true = cast_number (pos 1)
truth_taken false = cast_number (pos 0)

expiry_taken : (o : Option ℤ) → cast Integer (value_of (expiry_cell o)) ≡ value_of (expiry_cell o)
expiry_taken None = cast_nothing
expiry_taken (Some n) = cast_number n

number_or_bytes : (addr : Address) (v6 : Bool) → cast Integer (value_of (cond v6 (cell.Blob (v6_bytes addr.bits)) (cell.Number (pos addr.bits)))) ≡ value_of (cond v6 (cell.Blob (v6_bytes addr.bits)) (cell.Number (pos addr.bits)))
number_or_bytes addr true = cast_bytes (v6_bytes addr.bits)
number_or_bytes addr false = cast_number (pos addr.bits)

address_taken : (addr : Address) → cast Integer (value_of (address_cell addr)) ≡ value_of (address_cell addr)
address_taken addr = number_or_bytes addr addr.v6

-- the rows of `users` are now these
set_users : (old new : Database) (rows : Rows) (xs : List User) (stood : List Row) → Keeps old rows → SetsRows schema_1 1 stood old new → IsPermutation (map (λ r. tree_row (user_cells r)) xs) stood
    → AreById (record rows { users = xs }) → Keeps new (record rows { users = xs })
set_users old new rows xs stood was set order by = record {
  schema = set.schema_is;
  stored = record {
    meta = set.others.0 (λ (e : 0 ≡ 1). omega (arith, e)) ∙ was.stored.meta;
    users = subst (λ l. IsPermutation (map (λ r. tree_row (user_cells r)) xs) l) (sym set.rows_are) order;
    keys = moved _ _ _ (set.others.1.1.0 (λ (e : 3 ≡ 1). omega (arith, e))) was.stored.keys;
    pending = moved _ _ _ (set.others.1.1.1.0 (λ (e : 5 ≡ 1). omega (arith, e))) was.stored.pending;
    machines = moved _ _ _ (set.others.1.1.1.1.0 (λ (e : 8 ≡ 1). omega (arith, e))) was.stored.machines;
    extras = moved _ _ _ (set.others.1.1.1.1.1.0 (λ (e : 14 ≡ 1). omega (arith, e))) was.stored.extras;
    policy = set.others.1.1.1.1.1.1.0 (λ (e : 15 ≡ 1). omega (arith, e)) ∙ was.stored.policy;
  };
  ordered = by;
}

abbrev user_rest : User → Row
user_rest r = drop 1 (tree_row (user_cells r))

pub user_put : (old new : Database) (x : User) → IsPutBy UPDATE_USERS.now INSERT_USERS.now (map value_of (user_cells x)) old new
    → Makes old new (λ rows. record rows { users = put_row (λ r. r.id) rows.users x })
user_put old new x put rows was =
    let key = λ (r : User). r.id in
    let stood = image_of (row_of key user_rest) rows.users (old.trees 1) was.stored.users in
    let set = puts_row 1 1 (drop 1 users_table.columns) users_place x.id (drop 1 (map value_of (user_cells x))) (refl, tt) key user_rest stood.them UPDATE_USERS.now INSERT_USERS.now _ _ _ old new
    was.schema stood.are update_users_means insert_users_means (λ row. refl) refl put in
    set_users old new rows (put_row key rows.users x) _ was set (put_in_place key user_rest x rows.users stood.them was.ordered.users stood.same)
    (record { users = IsAscending-put key rows.users x was.ordered.users; keys = was.ordered.keys; pending = was.ordered.pending; machines = was.ordered.machines })

user_gone : (old new : Database) (id count : ℕ) → HasRun DELETE_USERS.now (Int (pos id) ∷ []) count old new
    → Makes old new (λ rows. record rows { users = without (λ r. r.id) rows.users id })
user_gone old new id count ran rows was =
    let key = λ (r : User). r.id in
    let stood = image_of (row_of key user_rest) rows.users (old.trees 1) was.stored.users in
    let set = takes_out 1 1 (drop 1 users_table.columns) users_place key user_rest stood.them DELETE_USERS.now count old new was.schema stood.are id delete_users_means ran in
    set_users old new rows (without key rows.users id) _ was set (IsPermutation-map (row_of key user_rest) _ _ (left_in_order key user_rest id rows.users stood.them stood.same))
    (record { users = IsAscending-without key rows.users id was.ordered.users; keys = was.ordered.keys; pending = was.ordered.pending; machines = was.ordered.machines })

-- the rows of `auth_keys` are now these
set_keys : (old new : Database) (rows : Rows) (xs : List AuthKey) (stood : List Row) → Keeps old rows → SetsRows schema_1 3 stood old new → IsPermutation (map (λ r. tree_row (auth_key_cells r)) xs) stood
    → AreById (record rows { keys = xs }) → Keeps new (record rows { keys = xs })
set_keys old new rows xs stood was set order by = record {
  schema = set.schema_is;
  stored = record {
    meta = set.others.0 (λ (e : 0 ≡ 3). omega (arith, e)) ∙ was.stored.meta;
    users = moved _ _ _ (set.others.1.0 (λ (e : 1 ≡ 3). omega (arith, e))) was.stored.users;
    keys = subst (λ l. IsPermutation (map (λ r. tree_row (auth_key_cells r)) xs) l) (sym set.rows_are) order;
    pending = moved _ _ _ (set.others.1.1.1.0 (λ (e : 5 ≡ 3). omega (arith, e))) was.stored.pending;
    machines = moved _ _ _ (set.others.1.1.1.1.0 (λ (e : 8 ≡ 3). omega (arith, e))) was.stored.machines;
    extras = moved _ _ _ (set.others.1.1.1.1.1.0 (λ (e : 14 ≡ 3). omega (arith, e))) was.stored.extras;
    policy = set.others.1.1.1.1.1.1.0 (λ (e : 15 ≡ 3). omega (arith, e)) ∙ was.stored.policy;
  };
  ordered = by;
}

abbrev key_rest : AuthKey → Row
key_rest r = drop 1 (tree_row (auth_key_cells r))

pub key_put : (old new : Database) (x : AuthKey) → IsPutBy UPDATE_AUTH_KEYS.now INSERT_AUTH_KEYS.now (map value_of (auth_key_cells x)) old new
    → Makes old new (λ rows. record rows { keys = put_row (λ r. r.id) rows.keys x })
key_put old new x put rows was =
    let key = λ (r : AuthKey). r.id in
    let stood = image_of (row_of key key_rest) rows.keys (old.trees 3) was.stored.keys in
    let set = puts_row 2 3 (drop 1 auth_keys_table.columns) auth_keys_place x.id (drop 1 (map value_of (auth_key_cells x))) (refl, (cast_number (pos x.user), (truth_taken x.reusable, (truth_taken x.ephemeral, (truth_taken x.used, (expiry_taken x.expiry, (refl, tt))))))) key key_rest stood.them UPDATE_AUTH_KEYS.now INSERT_AUTH_KEYS.now _ _ _ old new
    was.schema stood.are update_auth_keys_means insert_auth_keys_means (λ row. refl) refl put in
    set_keys old new rows (put_row key rows.keys x) _ was set (put_in_place key key_rest x rows.keys stood.them was.ordered.keys stood.same)
    (record { users = was.ordered.users; keys = IsAscending-put key rows.keys x was.ordered.keys; pending = was.ordered.pending; machines = was.ordered.machines })

key_gone : (old new : Database) (id count : ℕ) → HasRun DELETE_AUTH_KEYS.now (Int (pos id) ∷ []) count old new
    → Makes old new (λ rows. record rows { keys = without (λ r. r.id) rows.keys id })
key_gone old new id count ran rows was =
    let key = λ (r : AuthKey). r.id in
    let stood = image_of (row_of key key_rest) rows.keys (old.trees 3) was.stored.keys in
    let set = takes_out 2 3 (drop 1 auth_keys_table.columns) auth_keys_place key key_rest stood.them DELETE_AUTH_KEYS.now count old new was.schema stood.are id delete_auth_keys_means ran in
    set_keys old new rows (without key rows.keys id) _ was set (IsPermutation-map (row_of key key_rest) _ _ (left_in_order key key_rest id rows.keys stood.them stood.same))
    (record { users = was.ordered.users; keys = IsAscending-without key rows.keys id was.ordered.keys; pending = was.ordered.pending; machines = was.ordered.machines })

-- the rows of `pending` are now these
set_pending : (old new : Database) (rows : Rows) (xs : List Pending) (stood : List Row) → Keeps old rows → SetsRows schema_1 5 stood old new → IsPermutation (map (λ r. tree_row (pending_cells r)) xs) stood
    → AreById (record rows { pending = xs }) → Keeps new (record rows { pending = xs })
set_pending old new rows xs stood was set order by = record {
  schema = set.schema_is;
  stored = record {
    meta = set.others.0 (λ (e : 0 ≡ 5). omega (arith, e)) ∙ was.stored.meta;
    users = moved _ _ _ (set.others.1.0 (λ (e : 1 ≡ 5). omega (arith, e))) was.stored.users;
    keys = moved _ _ _ (set.others.1.1.0 (λ (e : 3 ≡ 5). omega (arith, e))) was.stored.keys;
    pending = subst (λ l. IsPermutation (map (λ r. tree_row (pending_cells r)) xs) l) (sym set.rows_are) order;
    machines = moved _ _ _ (set.others.1.1.1.1.0 (λ (e : 8 ≡ 5). omega (arith, e))) was.stored.machines;
    extras = moved _ _ _ (set.others.1.1.1.1.1.0 (λ (e : 14 ≡ 5). omega (arith, e))) was.stored.extras;
    policy = set.others.1.1.1.1.1.1.0 (λ (e : 15 ≡ 5). omega (arith, e)) ∙ was.stored.policy;
  };
  ordered = by;
}

abbrev pending_rest : Pending → Row
pending_rest r = drop 1 (tree_row (pending_cells r))

pub pending_put : (old new : Database) (x : Pending) → IsPutBy UPDATE_PENDING.now INSERT_PENDING.now (map value_of (pending_cells x)) old new
    → Makes old new (λ rows. record rows { pending = put_row (λ r. r.id) rows.pending x })
pending_put old new x put rows was =
    let key = λ (r : Pending). r.id in
    let stood = image_of (row_of key pending_rest) rows.pending (old.trees 5) was.stored.pending in
    let set = puts_row 3 5 (drop 1 pending_table.columns) pending_place x.id (drop 1 (map value_of (pending_cells x))) (refl, (refl, (refl, (refl, (refl, (refl, (truth_taken x.ephemeral, (expiry_taken x.expiry, (cast_number x.made, tt))))))))) key pending_rest stood.them UPDATE_PENDING.now INSERT_PENDING.now _ _ _ old new
    was.schema stood.are update_pending_means insert_pending_means (λ row. refl) refl put in
    set_pending old new rows (put_row key rows.pending x) _ was set (put_in_place key pending_rest x rows.pending stood.them was.ordered.pending stood.same)
    (record { users = was.ordered.users; keys = was.ordered.keys; pending = IsAscending-put key rows.pending x was.ordered.pending; machines = was.ordered.machines })

pending_gone : (old new : Database) (id count : ℕ) → HasRun DELETE_PENDING.now (Int (pos id) ∷ []) count old new
    → Makes old new (λ rows. record rows { pending = without (λ r. r.id) rows.pending id })
pending_gone old new id count ran rows was =
    let key = λ (r : Pending). r.id in
    let stood = image_of (row_of key pending_rest) rows.pending (old.trees 5) was.stored.pending in
    let set = takes_out 3 5 (drop 1 pending_table.columns) pending_place key pending_rest stood.them DELETE_PENDING.now count old new was.schema stood.are id delete_pending_means ran in
    set_pending old new rows (without key rows.pending id) _ was set (IsPermutation-map (row_of key pending_rest) _ _ (left_in_order key pending_rest id rows.pending stood.them stood.same))
    (record { users = was.ordered.users; keys = was.ordered.keys; pending = IsAscending-without key rows.pending id was.ordered.pending; machines = was.ordered.machines })

-- the rows of `machines` are now these
set_machines : (old new : Database) (rows : Rows) (xs : List Machine) (stood : List Row) → Keeps old rows → SetsRows schema_1 8 stood old new → IsPermutation (map (λ r. tree_row (machine_cells r)) xs) stood
    → AreById (record rows { machines = xs }) → Keeps new (record rows { machines = xs })
set_machines old new rows xs stood was set order by = record {
  schema = set.schema_is;
  stored = record {
    meta = set.others.0 (λ (e : 0 ≡ 8). omega (arith, e)) ∙ was.stored.meta;
    users = moved _ _ _ (set.others.1.0 (λ (e : 1 ≡ 8). omega (arith, e))) was.stored.users;
    keys = moved _ _ _ (set.others.1.1.0 (λ (e : 3 ≡ 8). omega (arith, e))) was.stored.keys;
    pending = moved _ _ _ (set.others.1.1.1.0 (λ (e : 5 ≡ 8). omega (arith, e))) was.stored.pending;
    machines = subst (λ l. IsPermutation (map (λ r. tree_row (machine_cells r)) xs) l) (sym set.rows_are) order;
    extras = moved _ _ _ (set.others.1.1.1.1.1.0 (λ (e : 14 ≡ 8). omega (arith, e))) was.stored.extras;
    policy = set.others.1.1.1.1.1.1.0 (λ (e : 15 ≡ 8). omega (arith, e)) ∙ was.stored.policy;
  };
  ordered = by;
}

abbrev machine_rest : Machine → Row
machine_rest r = drop 1 (tree_row (machine_cells r))

pub machine_put : (old new : Database) (x : Machine) → IsPutBy UPDATE_MACHINES.now INSERT_MACHINES.now (map value_of (machine_cells x)) old new
    → Makes old new (λ rows. record rows { machines = put_row (λ r. r.id) rows.machines x })
machine_put old new x put rows was =
    let key = λ (r : Machine). r.id in
    let stood = image_of (row_of key machine_rest) rows.machines (old.trees 8) was.stored.machines in
    let set = puts_row 4 8 (drop 1 machines_table.columns) machines_place x.id (drop 1 (map value_of (machine_cells x))) (cast_number (pos x.user), (refl, (refl, (refl, (refl, (refl, (address_taken x.v4, (refl, (refl, (cast_number (pos x.derp), (refl, (refl, (refl, (truth_taken x.ephemeral, (expiry_taken x.expiry, (cast_number x.created, tt)))))))))))))))) key machine_rest stood.them UPDATE_MACHINES.now INSERT_MACHINES.now _ _ _ old new
    was.schema stood.are update_machines_means insert_machines_means (λ row. refl) refl put in
    set_machines old new rows (put_row key rows.machines x) _ was set (put_in_place key machine_rest x rows.machines stood.them was.ordered.machines stood.same)
    (record { users = was.ordered.users; keys = was.ordered.keys; pending = was.ordered.pending; machines = IsAscending-put key rows.machines x was.ordered.machines })

machine_gone : (old new : Database) (id count : ℕ) → HasRun DELETE_MACHINES.now (Int (pos id) ∷ []) count old new
    → Makes old new (λ rows. record rows { machines = without (λ r. r.id) rows.machines id })
machine_gone old new id count ran rows was =
    let key = λ (r : Machine). r.id in
    let stood = image_of (row_of key machine_rest) rows.machines (old.trees 8) was.stored.machines in
    let set = takes_out 4 8 (drop 1 machines_table.columns) machines_place key machine_rest stood.them DELETE_MACHINES.now count old new was.schema stood.are id delete_machines_means ran in
    set_machines old new rows (without key rows.machines id) _ was set (IsPermutation-map (row_of key machine_rest) _ _ (left_in_order key machine_rest id rows.machines stood.them stood.same))
    (record { users = was.ordered.users; keys = was.ordered.keys; pending = was.ordered.pending; machines = IsAscending-without key rows.machines id was.ordered.machines })

-- a row goes by its text and its id
pub row_gone : (old new : Database) (key : RowKey) (count : ℕ) → HasRun (gone_text key) (Int (pos (gone_id key)) ∷ []) count old new → Makes old new (λ rows. take_out rows key)
row_gone old new (gone.User id) count ran = user_gone old new id count ran
row_gone old new (gone.Key id) count ran = key_gone old new id count ran
row_gone old new (gone.Pending id) count ran = pending_gone old new id count ran
row_gone old new (gone.Machine id) count ran = machine_gone old new id count ran

abbrev meta_rest : Counters → Row
meta_rest next = drop 1 (tree_row (meta_cells next))

pub next_put : (old new : Database) (next : Counters) → IsPutBy UPDATE_META.now INSERT_META.now (map value_of (meta_cells next)) old new → Makes old new (λ rows. record rows { next = next })
next_put old new next put rows was =
    let key : Counters → ℕ = λ n. 1 in
    let set = puts_row 0 0 (drop 1 meta_table.columns) meta_place 1 (drop 1 (map value_of (meta_cells next))) (cast_number (pos 1), (cast_number (pos next.user), (cast_number (pos next.key), (cast_number (pos next.pending), (cast_number (pos next.machine), tt))))) key meta_rest (rows.next ∷ []) UPDATE_META.now INSERT_META.now _ _ _ old new
    was.schema was.stored.meta update_meta_means insert_meta_means (λ row. refl) refl put in
    record {
      schema = set.schema_is;
      stored = record {
        meta = set.rows_are;
        users = moved _ _ _ (set.others.1.0 (λ (e : 1 ≡ 0). omega (arith, e))) was.stored.users;
        keys = moved _ _ _ (set.others.1.1.0 (λ (e : 3 ≡ 0). omega (arith, e))) was.stored.keys;
        pending = moved _ _ _ (set.others.1.1.1.0 (λ (e : 5 ≡ 0). omega (arith, e))) was.stored.pending;
        machines = moved _ _ _ (set.others.1.1.1.1.0 (λ (e : 8 ≡ 0). omega (arith, e))) was.stored.machines;
        extras = moved _ _ _ (set.others.1.1.1.1.1.0 (λ (e : 14 ≡ 0). omega (arith, e))) was.stored.extras;
        policy = set.others.1.1.1.1.1.1.0 (λ (e : 15 ≡ 0). omega (arith, e)) ∙ was.stored.policy;
      };
      ordered = record { users = was.ordered.users; keys = was.ordered.keys; pending = was.ordered.pending; machines = was.ordered.machines };
    }

abbrev policy_rest : List ℕ → Row
policy_rest body = drop 1 (tree_row (policy_cells body))

policy_list : (policy : Option (List ℕ)) → policy_row policy ≡ map (row_of (λ (b : List ℕ). 1) policy_rest) (option_to_list policy)
policy_list None = refl
policy_list (Some body) = refl

none_left : (policy : Option (List ℕ)) → left (λ (b : List ℕ). 1) policy_rest 1 (option_to_list policy) ≡ []
none_left None = refl
none_left (Some body) = refl

pub policy_put : (old new : Database) (body : List ℕ) → IsPutBy UPDATE_POLICY.now INSERT_POLICY.now (map value_of (policy_cells body)) old new → Makes old new (λ rows. record rows { policy = Some body })
policy_put old new body put rows was =
    let key : List ℕ → ℕ = λ b. 1 in
    let set = puts_row 6 15 (drop 1 policy_table.columns) policy_place 1 (Text body ∷ []) (refl, tt) key policy_rest (option_to_list rows.policy) UPDATE_POLICY.now INSERT_POLICY.now _ _ _ old new
    was.schema (was.stored.policy ∙ policy_list rows.policy) update_policy_means insert_policy_means (λ row. refl) refl put in
    let alone = ap (λ l. put_tree (tree_row (policy_cells body)) (map (row_of key policy_rest) l)) (none_left rows.policy) in
    record {
      schema = set.schema_is;
      stored = record {
        meta = set.others.0 (λ (e : 0 ≡ 15). omega (arith, e)) ∙ was.stored.meta;
        users = moved _ _ _ (set.others.1.0 (λ (e : 1 ≡ 15). omega (arith, e))) was.stored.users;
        keys = moved _ _ _ (set.others.1.1.0 (λ (e : 3 ≡ 15). omega (arith, e))) was.stored.keys;
        pending = moved _ _ _ (set.others.1.1.1.0 (λ (e : 5 ≡ 15). omega (arith, e))) was.stored.pending;
        machines = moved _ _ _ (set.others.1.1.1.1.0 (λ (e : 8 ≡ 15). omega (arith, e))) was.stored.machines;
        extras = moved _ _ _ (set.others.1.1.1.1.1.0 (λ (e : 14 ≡ 15). omega (arith, e))) was.stored.extras;
        policy = set.rows_are ∙ alone;
      };
      ordered = record { users = was.ordered.users; keys = was.ordered.keys; pending = was.ordered.pending; machines = was.ordered.machines };
    }

set_extras : (old new : Database) (rows : Rows) (xs : List DnsExtra) (stood : List Row) → Keeps old rows → SetsRows schema_1 14 stood old new → IsPermutation (placed_rows 1 xs) stood
    → Keeps new (record rows { extras = xs })
set_extras old new rows xs stood was set order = record {
  schema = set.schema_is;
  stored = record {
    meta = set.others.0 (λ (e : 0 ≡ 14). omega (arith, e)) ∙ was.stored.meta;
    users = moved _ _ _ (set.others.1.0 (λ (e : 1 ≡ 14). omega (arith, e))) was.stored.users;
    keys = moved _ _ _ (set.others.1.1.0 (λ (e : 3 ≡ 14). omega (arith, e))) was.stored.keys;
    pending = moved _ _ _ (set.others.1.1.1.0 (λ (e : 5 ≡ 14). omega (arith, e))) was.stored.pending;
    machines = moved _ _ _ (set.others.1.1.1.1.0 (λ (e : 8 ≡ 14). omega (arith, e))) was.stored.machines;
    extras = subst (λ l. IsPermutation (placed_rows 1 xs) l) (sym set.rows_are) order;
    policy = set.others.1.1.1.1.1.1.0 (λ (e : 15 ≡ 14). omega (arith, e)) ∙ was.stored.policy;
  };
  ordered = record { users = was.ordered.users; keys = was.ordered.keys; pending = was.ordered.pending; machines = was.ordered.machines };
}

-- all extra records go
pub extras_gone : (old new : Database) (count : ℕ) → HasRun CLEAR_EXTRAS.now [] count old new → Makes old new (λ rows. record rows { extras = [] })
extras_gone old new count ran rows was =
    let key : ℕ × DnsExtra → ℕ = λ p. p.0 in
    let stood = image_of (row_of key extra_rest) (with_places 1 rows.extras) (old.trees 14) (subst (λ l. IsPermutation l (old.trees 14)) (placed_are 1 rows.extras) was.stored.extras) in
    set_extras old new rows [] [] was
    (takes_all_out 5 14 (drop 1 extras_table.columns) extras_place key extra_rest stood.them CLEAR_EXTRAS.now count old new was.schema stood.are [] clear_extras_means ran)
    (IsPermutation-refl [])

-- one more record stands behind the others
pub extra_added : (old new : Database) (xs : List DnsExtra) (x : DnsExtra) → IsAdded (map value_of (extra_cells (1 + length xs) x)) old new
    → (rows : Rows) → Keeps old (record rows { extras = xs }) → Keeps new (record rows { extras = xs ++ x ∷ [] })
extra_added old new xs x (count, ran) rows was =
    let set = adds_row 5 14 (drop 1 extras_table.columns) extras_place (1 + length xs) (drop 1 (map value_of (extra_cells (1 + length xs) x))) (refl, (refl, tt)) INSERT_EXTRAS.now _ _ count old new was.schema insert_extras_means refl ran in
    set_extras old new (record rows { extras = xs }) (xs ++ x ∷ []) _ was set (put_last xs x (old.trees 14) was.stored.extras)
