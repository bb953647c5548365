-- What the texts mean: computed.
use Rattle.std.proofs.Common.{refl}
use Rattle.sqlite_tied.specs.Compute.{everything}
use Rattle.sqlite.specs.Listing.{understood}
use Rattle.store_sql.specs.Commands.{insert_meta, insert_users, insert_auth_keys, insert_pending, insert_machines, insert_extras, insert_policy}
use Rattle.store_sql.specs.Means.{Means}
use Rattle.store_sql.specs.declared.texts.TheConstants.{INSERT_AUTH_KEYS, INSERT_EXTRAS, INSERT_MACHINES, INSERT_META, INSERT_PENDING, INSERT_POLICY, INSERT_USERS}

pub insert_meta_means : Means INSERT_META.now insert_meta
unfolding understood everything
insert_meta_means = record { command_is = refl; whole = refl; plain = (refl, refl); no_listing = refl }

pub insert_users_means : Means INSERT_USERS.now insert_users
unfolding understood everything
insert_users_means = record { command_is = refl; whole = refl; plain = (refl, refl); no_listing = refl }

pub insert_auth_keys_means : Means INSERT_AUTH_KEYS.now insert_auth_keys
unfolding understood everything
insert_auth_keys_means = record { command_is = refl; whole = refl; plain = (refl, refl); no_listing = refl }

pub insert_pending_means : Means INSERT_PENDING.now insert_pending
unfolding understood everything
insert_pending_means = record { command_is = refl; whole = refl; plain = (refl, refl); no_listing = refl }

pub insert_machines_means : Means INSERT_MACHINES.now insert_machines
unfolding understood everything
insert_machines_means = record { command_is = refl; whole = refl; plain = (refl, refl); no_listing = refl }

pub insert_extras_means : Means INSERT_EXTRAS.now insert_extras
unfolding understood everything
insert_extras_means = record { command_is = refl; whole = refl; plain = (refl, refl); no_listing = refl }

pub insert_policy_means : Means INSERT_POLICY.now insert_policy
unfolding understood everything
insert_policy_means = record { command_is = refl; whole = refl; plain = (refl, refl); no_listing = refl }
