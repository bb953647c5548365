-- What the statements of schema 1 result in: queries over a tree, and the table, by its place in the schema, that is
-- written to.
use Rattle.std.specs.Prelude.{ℕ, pos, negsuc, false, List, [], ◌∷◌, ◌+◌, None, drop, length, map}
use Rattle.sqlite_schema.specs.declared.command.Command.{Command}
use Rattle.sqlite_schema.specs.declared.command.Command.TheVariants.{Insert, Select, Update, Delete}
use Rattle.sqlite_schema.specs.declared.command.Source.TheVariants.{Values}
use Rattle.sqlite_schema.specs.declared.schema.Column.{Column}
use Rattle.sqlite_schema.specs.declared.schema.Table.{Table}
use Rattle.sqlite_sql.specs.Term.{Term, lit, col, op2}
use Rattle.sqlite_sql.specs.declared.ops.BinaryOp.TheVariants.{Compare}
use Rattle.sqlite_sql.specs.declared.ops.CompareOp.TheVariants.{Eq}
use Rattle.sqlite_sql.specs.Query.{Query, inner, end}
use Rattle.sqlite_value.specs.declared.keys.Collation.TheVariants.{Binary}
use Rattle.sqlite_value.specs.declared.value.Value.TheVariants.{Null, Int}
use Rattle.sqlite_value.specs.Keys.{ascending}
use Rattle.store_sql.specs.Schema.{meta_table, users_table, auth_keys_table, pending_table, machines_table, extras_table, policy_table}

-- the rows of a tree by their rowids, with these columns
abbrev pub all_by_id : ℕ → List Term → Query
all_by_id tree columns = record {
  from = inner tree end;
  filter = [];
  group = None;
  project = columns;
  distinct = false;
  collations = [];
  order = (col 1 0, ascending Binary) ∷ [];
  limit = lit (Int (negsuc 0));
  offset = lit (Int (pos 0));
}

-- the rowid of a tree that equals the first parameter
abbrev pub one_by_id : ℕ → Query
one_by_id tree = record {
  from = inner tree end;
  filter = op2 (Compare Eq Binary) (col 1 0) (col 0 0) ∷ [];
  group = None;
  project = col 1 0 ∷ [];
  distinct = false;
  collations = [];
  order = [];
  limit = lit (Int (negsuc 0));
  offset = lit (Int (pos 0));
}

-- the rows of a tree whose key is the first parameter: each rowid, and the row that replaces it
abbrev pub replaced_by_id : ℕ → List Term → Query
replaced_by_id tree row = record (one_by_id tree) { project = col 1 0 ∷ row }

-- the rowids of a tree
abbrev pub all_ids : ℕ → Query
all_ids tree = record (one_by_id tree) { filter = [] }

-- a term for each of these columns: the values of a source, from a place on
abbrev pub columns_from : ℕ → ℕ → List Column → List Term
columns_from source place [] = []
columns_from source place (c ∷ cs) = col source place ∷ columns_from source (place + 1) cs

-- a table's columns as its rows have them: the key is the rowid, and NULL stands behind it in the key's place
abbrev pub shown_columns : Table → List Term
shown_columns table = col 1 0 ∷ columns_from 1 2 (drop 1 table.columns)

-- a row of a table whose columns behind the key are the parameters behind the first
abbrev pub row_of_parameters : Term → Table → List Term
row_of_parameters id table = id ∷ lit Null ∷ columns_from 0 1 (drop 1 table.columns)

-- all rows of a table, with all its columns under their names
abbrev pub select_all : Table → Command
select_all table =
    Select (record { lets = []; body = all_by_id table.tree (shown_columns table) }) (map (λ (c : Column). c.name) table.columns)

-- the parameters are a row of the table at this place of the schema
abbrev pub insert_into : ℕ → Table → Command
insert_into place table = Insert place (Values (row_of_parameters (col 0 0) table) (length table.columns + 1))

-- the row with the key of the parameters is replaced by them
abbrev pub update_in : ℕ → Table → Command
update_in place table = Update place (record { lets = []; body = replaced_by_id table.tree (row_of_parameters (col 1 0) table) })

-- the row of this id goes
abbrev pub delete_from : ℕ → Table → Command
delete_from place table = Delete place (record { lets = []; body = one_by_id table.tree })

-- table by table: all rows, ..
abbrev pub select_meta : Command
select_meta = select_all meta_table

abbrev pub select_users : Command
select_users = select_all users_table

abbrev pub select_auth_keys : Command
select_auth_keys = select_all auth_keys_table

abbrev pub select_pending : Command
select_pending = select_all pending_table

abbrev pub select_machines : Command
select_machines = select_all machines_table

abbrev pub select_extras : Command
select_extras = select_all extras_table

abbrev pub select_policy : Command
select_policy = select_all policy_table

-- .. one more, ..
abbrev pub insert_meta : Command
insert_meta = insert_into 0 meta_table

abbrev pub insert_users : Command
insert_users = insert_into 1 users_table

abbrev pub insert_auth_keys : Command
insert_auth_keys = insert_into 2 auth_keys_table

abbrev pub insert_pending : Command
insert_pending = insert_into 3 pending_table

abbrev pub insert_machines : Command
insert_machines = insert_into 4 machines_table

abbrev pub insert_extras : Command
insert_extras = insert_into 5 extras_table

abbrev pub insert_policy : Command
insert_policy = insert_into 6 policy_table

-- .. another in the place of one, ..
abbrev pub update_meta : Command
update_meta = update_in 0 meta_table

abbrev pub update_users : Command
update_users = update_in 1 users_table

abbrev pub update_auth_keys : Command
update_auth_keys = update_in 2 auth_keys_table

abbrev pub update_pending : Command
update_pending = update_in 3 pending_table

abbrev pub update_machines : Command
update_machines = update_in 4 machines_table

abbrev pub update_policy : Command
update_policy = update_in 6 policy_table

-- .. and one less.
abbrev pub delete_users : Command
delete_users = delete_from 1 users_table

abbrev pub delete_auth_keys : Command
delete_auth_keys = delete_from 2 auth_keys_table

abbrev pub delete_pending : Command
delete_pending = delete_from 3 pending_table

abbrev pub delete_machines : Command
delete_machines = delete_from 4 machines_table

-- all rows of `extras` go
abbrev pub clear_extras : Command
clear_extras = Delete 5 (record { lets = []; body = all_ids extras_table.tree })
