-- What the texts mean: computed.
use Rattle.std.proofs.Common.{◌≡◌, Ok, refl}
use Rattle.sqlite_tied.specs.Compute.{everything}
use Rattle.sqlite_resolve.specs.Compile.{table_defined_by}
use Rattle.sqlite.specs.Listing.{understood}
use Rattle.sqlite_catalog.specs.Change.{created}
use Rattle.store_sql.specs.Schema.{meta_table, users_table, auth_keys_table, pending_table, machines_table, extras_table, policy_table, no_schema, schema_1}
use Rattle.store_sql.specs.declared.texts.TheConstants.{CREATE_AUTH_KEYS, CREATE_EXTRAS, CREATE_MACHINES, CREATE_META, CREATE_PENDING, CREATE_POLICY, CREATE_USERS}

pub meta_made : table_defined_by CREATE_META.now ≡ Ok (record meta_table { tree = 0 })
unfolding understood everything
meta_made = refl

pub users_made : table_defined_by CREATE_USERS.now ≡ Ok (record users_table { tree = 0 })
unfolding understood everything
users_made = refl

pub auth_keys_made : table_defined_by CREATE_AUTH_KEYS.now ≡ Ok (record auth_keys_table { tree = 0 })
unfolding understood everything
auth_keys_made = refl

pub pending_made : table_defined_by CREATE_PENDING.now ≡ Ok (record pending_table { tree = 0 })
unfolding understood everything
pending_made = refl

pub machines_made : table_defined_by CREATE_MACHINES.now ≡ Ok (record machines_table { tree = 0 })
unfolding understood everything
machines_made = refl

pub extras_made : table_defined_by CREATE_EXTRAS.now ≡ Ok (record extras_table { tree = 0 })
unfolding understood everything
extras_made = refl

pub policy_made : table_defined_by CREATE_POLICY.now ≡ Ok (record policy_table { tree = 0 })
unfolding understood everything
policy_made = refl

pub whole_made : created (created (created (created (created (created (created no_schema meta_table) users_table) auth_keys_table) pending_table) machines_table) extras_table) policy_table ≡ schema_1
unfolding understood everything
whole_made = refl
