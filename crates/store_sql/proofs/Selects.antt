-- What the texts mean: computed.
use Rattle.std.proofs.Common.{refl}
use Rattle.sqlite_tied.specs.Compute.{everything}
use Rattle.sqlite.specs.Given.{IsPlain}
use Rattle.sqlite.specs.Listing.{listing_schema, understood}
use Rattle.store_sql.specs.Commands.{select_meta, select_users, select_auth_keys, select_pending, select_machines, select_extras, select_policy}
use Rattle.store_sql.specs.Means.{Means}
use Rattle.store_sql.specs.Schema.{no_schema}
use Rattle.store_sql.specs.declared.texts.TheConstants.{SELECT_AUTH_KEYS, SELECT_EXTRAS, SELECT_MACHINES, SELECT_META, SELECT_PENDING, SELECT_POLICY, SELECT_SCHEMA, SELECT_USERS}

pub select_meta_means : Means SELECT_META.now select_meta
unfolding understood everything
select_meta_means = record { command_is = refl; whole = refl; plain = (refl, refl); no_listing = refl }

pub select_users_means : Means SELECT_USERS.now select_users
unfolding understood everything
select_users_means = record { command_is = refl; whole = refl; plain = (refl, refl); no_listing = refl }

pub select_auth_keys_means : Means SELECT_AUTH_KEYS.now select_auth_keys
unfolding understood everything
select_auth_keys_means = record { command_is = refl; whole = refl; plain = (refl, refl); no_listing = refl }

pub select_pending_means : Means SELECT_PENDING.now select_pending
unfolding understood everything
select_pending_means = record { command_is = refl; whole = refl; plain = (refl, refl); no_listing = refl }

pub select_machines_means : Means SELECT_MACHINES.now select_machines
unfolding understood everything
select_machines_means = record { command_is = refl; whole = refl; plain = (refl, refl); no_listing = refl }

pub select_extras_means : Means SELECT_EXTRAS.now select_extras
unfolding understood everything
select_extras_means = record { command_is = refl; whole = refl; plain = (refl, refl); no_listing = refl }

pub select_policy_means : Means SELECT_POLICY.now select_policy
unfolding understood everything
select_policy_means = record { command_is = refl; whole = refl; plain = (refl, refl); no_listing = refl }

-- a database without tables is asked for their names, and for nothing else
pub select_schema_plain : IsPlain (understood no_schema SELECT_SCHEMA.now)
unfolding understood listing_schema everything
select_schema_plain = (refl, refl)
