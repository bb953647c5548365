-- Tables, columns and indexes as schema 1 has them, from what tells them apart.
use Rattle.std.specs.Prelude.{ℕ, false, List, [], ◌∷◌, Some, map}
use Rattle.sqlite_value.specs.Keys.{plain}
use Rattle.sqlite_schema.specs.declared.schema.Column.{Column}
use Rattle.sqlite_schema.specs.declared.schema.Table.{Table}
use Rattle.store_sql.specs.Schema.{column_of}
use Rattle.store_loads.specs.declared.forms.Form.{Form}

-- the column that a form describes
abbrev pub column_as : Form → Column
column_as form = column_of form.name.now form.kind form.not_null

-- a table whose key is its first column, with these columns, those at these places unique, and nothing else said of it
abbrev pub table_as : List ℕ → ℕ → List Column → List ℕ → Table
table_as name tree columns places = record {
  name = name;
  tree = tree;
  columns = columns;
  key = Some 0;
  primary = 0 ∷ [];
  uniques = map (λ place. place ∷ []) places;
  orders = map (λ _. plain) places;
  checks = [];
  references = [];
  computed = [];
  stamps = record { places = []; terms = []; formats = [] };
  is_counted = false;
}
