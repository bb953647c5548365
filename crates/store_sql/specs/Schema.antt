-- The tables of schema 1, as the CREATE texts make them one after another.
use Rattle.sqlite_value.specs.declared.keys.Collation.TheVariants.{Binary}
use Rattle.sqlite_value.specs.Keys.{plain}
use Rattle.std.specs.Prelude.{true, false, [], ◌∷◌, Some, codes, List, ℕ, Bool}
use Rattle.sqlite_value.specs.declared.value.Value.TheVariants.{Null}
use Rattle.sqlite_schema.specs.declared.schema.Column.{Column}
use Rattle.sqlite_schema.specs.declared.schema.Index.{Index}
use Rattle.sqlite_schema.specs.declared.schema.Table.{Table}
use Rattle.sqlite_schema.specs.declared.schema.Schema.{Schema}
use Rattle.sqlite_schema.specs.declared.schema.Kind.{Kind}
use Rattle.sqlite_schema.specs.declared.schema.Kind.TheVariants.{Integer, Text, Any}

-- a column of a table that isn't strict, with no default
abbrev pub column_of : List ℕ → Kind → Bool → Column
column_of name kind not_null = record {
  name = name;
  kind = kind;
  is_strict = false;
  not_null = not_null;
  default = Null;
  collation = Binary;
}

-- an automatic index on one column of a table
abbrev pub automatic_of : List ℕ → ℕ → ℕ → ℕ → Index
automatic_of name tree table place = record {
  name = name;
  tree = tree;
  table = table;
  columns = place ∷ [];
  order = plain;
  is_unique = true;
}

-- the table `meta`
abbrev pub meta_table : Table
meta_table = record {
  name = codes "meta";
  tree = 0;
  columns =
      column_of (codes "k") Integer false
      ∷ column_of (codes "version") Integer true
      ∷ column_of (codes "next_user") Integer true
      ∷ column_of (codes "next_key") Integer true
      ∷ column_of (codes "next_pending") Integer true
      ∷ column_of (codes "next_machine") Integer true ∷ [];
  key = Some 0;
  primary = 0 ∷ [];
  uniques = [];
  orders = [];
  checks = [];
  references = [];
  computed = [];
  stamps = record { places = []; terms = []; formats = [] };
  is_counted = false;
}

-- the table `users`
abbrev pub users_table : Table
users_table = record {
  name = codes "users";
  tree = 1;
  columns =
      column_of (codes "id") Integer false
      ∷ column_of (codes "login") Text true ∷ [];
  key = Some 0;
  primary = 0 ∷ [];
  uniques = (2 ∷ []) ∷ [];
  orders = plain ∷ [];
  checks = [];
  references = [];
  computed = [];
  stamps = record { places = []; terms = []; formats = [] };
  is_counted = false;
}

-- the table `auth_keys`
abbrev pub auth_keys_table : Table
auth_keys_table = record {
  name = codes "auth_keys";
  tree = 3;
  columns =
      column_of (codes "id") Integer false
      ∷ column_of (codes "secret") Text true
      ∷ column_of (codes "user") Integer true
      ∷ column_of (codes "reusable") Integer true
      ∷ column_of (codes "ephemeral") Integer true
      ∷ column_of (codes "used") Integer true
      ∷ column_of (codes "expiry") Integer false
      ∷ column_of (codes "tags") Text true ∷ [];
  key = Some 0;
  primary = 0 ∷ [];
  uniques = (2 ∷ []) ∷ [];
  orders = plain ∷ [];
  checks = [];
  references = [];
  computed = [];
  stamps = record { places = []; terms = []; formats = [] };
  is_counted = false;
}

-- the table `pending`
abbrev pub pending_table : Table
pending_table = record {
  name = codes "pending";
  tree = 5;
  columns =
      column_of (codes "id") Integer false
      ∷ column_of (codes "secret") Text true
      ∷ column_of (codes "machine") Any true
      ∷ column_of (codes "node") Any true
      ∷ column_of (codes "host") Text true
      ∷ column_of (codes "routes") Text true
      ∷ column_of (codes "tags") Text true
      ∷ column_of (codes "ephemeral") Integer true
      ∷ column_of (codes "expiry") Integer false
      ∷ column_of (codes "made") Integer true ∷ [];
  key = Some 0;
  primary = 0 ∷ [];
  uniques = (2 ∷ []) ∷ (3 ∷ []) ∷ [];
  orders = plain ∷ plain ∷ [];
  checks = [];
  references = [];
  computed = [];
  stamps = record { places = []; terms = []; formats = [] };
  is_counted = false;
}

-- the table `machines`
abbrev pub machines_table : Table
machines_table = record {
  name = codes "machines";
  tree = 8;
  columns =
      column_of (codes "id") Integer false
      ∷ column_of (codes "user") Integer true
      ∷ column_of (codes "machine") Any true
      ∷ column_of (codes "node") Any true
      ∷ column_of (codes "disco") Any true
      ∷ column_of (codes "host") Text true
      ∷ column_of (codes "name") Text true
      ∷ column_of (codes "v4") Integer true
      ∷ column_of (codes "v6") Any true
      ∷ column_of (codes "endpoints") Text true
      ∷ column_of (codes "derp") Integer true
      ∷ column_of (codes "routes") Text true
      ∷ column_of (codes "approved") Text true
      ∷ column_of (codes "tags") Text true
      ∷ column_of (codes "ephemeral") Integer true
      ∷ column_of (codes "expiry") Integer false
      ∷ column_of (codes "created") Integer true ∷ [];
  key = Some 0;
  primary = 0 ∷ [];
  uniques = (3 ∷ []) ∷ (4 ∷ []) ∷ (7 ∷ []) ∷ (8 ∷ []) ∷ (9 ∷ []) ∷ [];
  orders = plain ∷ plain ∷ plain ∷ plain ∷ plain ∷ [];
  checks = [];
  references = [];
  computed = [];
  stamps = record { places = []; terms = []; formats = [] };
  is_counted = false;
}

-- the table `extras`
abbrev pub extras_table : Table
extras_table = record {
  name = codes "extras";
  tree = 14;
  columns =
      column_of (codes "place") Integer false
      ∷ column_of (codes "name") Text true
      ∷ column_of (codes "addr") Text true ∷ [];
  key = Some 0;
  primary = 0 ∷ [];
  uniques = [];
  orders = [];
  checks = [];
  references = [];
  computed = [];
  stamps = record { places = []; terms = []; formats = [] };
  is_counted = false;
}

-- the table `policy`
abbrev pub policy_table : Table
policy_table = record {
  name = codes "policy";
  tree = 15;
  columns =
      column_of (codes "k") Integer false
      ∷ column_of (codes "body") Text true ∷ [];
  key = Some 0;
  primary = 0 ∷ [];
  uniques = [];
  orders = [];
  checks = [];
  references = [];
  computed = [];
  stamps = record { places = []; terms = []; formats = [] };
  is_counted = false;
}

-- all tables, and the indexes of their unique columns
abbrev pub schema_1 : Schema
schema_1 = record {
  tables = meta_table ∷ users_table ∷ auth_keys_table ∷ pending_table ∷ machines_table ∷ extras_table ∷ policy_table ∷ [];
  indexes =
      automatic_of (codes "sqlite_autoindex_users_1") 2 1 2
      ∷ automatic_of (codes "sqlite_autoindex_auth_keys_1") 4 3 2
      ∷ automatic_of (codes "sqlite_autoindex_pending_1") 6 5 2
      ∷ automatic_of (codes "sqlite_autoindex_pending_2") 7 5 3
      ∷ automatic_of (codes "sqlite_autoindex_machines_1") 9 8 3
      ∷ automatic_of (codes "sqlite_autoindex_machines_2") 10 8 4
      ∷ automatic_of (codes "sqlite_autoindex_machines_3") 11 8 7
      ∷ automatic_of (codes "sqlite_autoindex_machines_4") 12 8 8
      ∷ automatic_of (codes "sqlite_autoindex_machines_5") 13 8 9 ∷ [];
  views = [];
}

-- a database that has no table yet
abbrev pub no_schema : Schema
no_schema = record { tables = []; indexes = []; views = [] }
