-- What the CREATE texts make of a database, one after another.
use Rattle.std.specs.Prelude.{◌≡◌, ℕ, false, List, [], ◌∷◌, ◌++◌, Ok}
use Rattle.std.specs.List.{AllByRecursion}
use Rattle.sqlite.specs.Does.{lacks_sequence}
use Rattle.sqlite.specs.Effect.{Database}
use Rattle.sqlite.specs.Given.{IsPlain}
use Rattle.sqlite.specs.Listing.{understood}
use Rattle.sqlite.proofs.Callers.{command_of, statement_of}
use Rattle.sqlite_catalog.specs.Change.{created, next_tree}
use Rattle.sqlite_resolve.specs.Compile.{table_defined_by}
use Rattle.sqlite_schema.specs.declared.command.Command.TheVariants.{CreateTable}
use Rattle.sqlite_schema.specs.declared.schema.Schema.{Schema}
use Rattle.sqlite_schema.specs.declared.schema.Table.{Table}
use Rattle.sqlite_trees.specs.Tree.{Trees}
use Rattle.store_sql.specs.Schema.{meta_table, users_table, auth_keys_table, pending_table, machines_table, extras_table, policy_table, schema_1}
use Rattle.store_sql.specs.declared.texts.TheConstants.{CREATE_AUTH_KEYS, CREATE_EXTRAS, CREATE_MACHINES, CREATE_META, CREATE_PENDING, CREATE_POLICY, CREATE_USERS}

-- Under this schema the text makes this table and nothing else.
pub record IsMaking (schema : Schema) (text : List ℕ) (table : Table) : Type 0 where
  pub command_is : command_of (understood schema text) ≡ CreateTable
  pub words : statement_of text (understood schema text) ≡ text
  pub plain : IsPlain (understood schema text)
  pub defined : table_defined_by text ≡ Ok table
  pub alone : lacks_sequence (created schema table) ≡ false
  pub last : (created schema table).tables ≡ schema.tables ++ record table { tree = next_tree schema } ∷ []

-- the texts make these tables, one after another
abbrev pub AreMaking : Schema → List (List ℕ × Table) → Type 0
AreMaking schema [] = Unit {0}
AreMaking schema ((text, table) ∷ more) = IsMaking schema text table × AreMaking (created schema table) more

-- the schema once they are made
abbrev pub made_by : Schema → List (List ℕ × Table) → Schema
made_by schema [] = schema
made_by schema ((text, table) ∷ more) = made_by (created schema table) more

-- no table has a row
abbrev pub AreEmpty : List Table → Trees → Type 0
AreEmpty tables trees = AllByRecursion (λ t. trees t.tree ≡ []) tables

-- the texts of schema 1 in their order
abbrev pub making_texts : List (List ℕ × Table)
making_texts =
    (CREATE_META.now, record meta_table { tree = 0 }) ∷ (CREATE_USERS.now, record users_table { tree = 0 })
    ∷ (CREATE_AUTH_KEYS.now, record auth_keys_table { tree = 0 }) ∷ (CREATE_PENDING.now, record pending_table { tree = 0 })
    ∷ (CREATE_MACHINES.now, record machines_table { tree = 0 }) ∷ (CREATE_EXTRAS.now, record extras_table { tree = 0 })
    ∷ (CREATE_POLICY.now, record policy_table { tree = 0 }) ∷ []

-- The tables that stand are empty, and with those of the remaining texts they are schema 1.
pub record LeadsTo (rest : List (List ℕ × Table)) (db : Database) : Type 0 where
  pub empty : AreEmpty db.schema.tables db.trees
  pub makes : AreMaking db.schema rest
  pub whole : made_by db.schema rest ≡ schema_1
