-- How a row goes: by the text for its kind, and its id.
use Rattle.std.specs.Prelude.{ℕ, List}
use Rattle.net_rows.specs.declared.change.RowKey.{RowKey}
use Rattle.net_rows.specs.declared.change.RowKey.TheVariants.{User, Key, Pending, Machine}
use Rattle.store_sql.specs.declared.texts.TheConstants.{DELETE_AUTH_KEYS, DELETE_MACHINES, DELETE_PENDING, DELETE_USERS}

abbrev pub gone_text : RowKey → List ℕ
gone_text (User id) = DELETE_USERS.now
gone_text (Key id) = DELETE_AUTH_KEYS.now
gone_text (Pending id) = DELETE_PENDING.now
gone_text (Machine id) = DELETE_MACHINES.now

abbrev pub gone_id : RowKey → ℕ
gone_id (User id) = id
gone_id (Key id) = id
gone_id (Pending id) = id
gone_id (Machine id) = id
