-- What the texts mean: computed.
use Rattle.std.proofs.Common.{refl}
use Rattle.sqlite_tied.specs.Compute.{everything}
use Rattle.sqlite.specs.Listing.{understood}
use Rattle.store_sql.specs.Commands.{delete_users, delete_auth_keys, delete_pending, delete_machines}
use Rattle.store_sql.specs.Means.{Means}
use Rattle.store_sql.specs.declared.texts.TheConstants.{DELETE_AUTH_KEYS, DELETE_MACHINES, DELETE_PENDING, DELETE_USERS}

pub delete_users_means : Means DELETE_USERS.now delete_users
unfolding understood everything
delete_users_means = record { command_is = refl; whole = refl; plain = (refl, refl); no_listing = refl }

pub delete_auth_keys_means : Means DELETE_AUTH_KEYS.now delete_auth_keys
unfolding understood everything
delete_auth_keys_means = record { command_is = refl; whole = refl; plain = (refl, refl); no_listing = refl }

pub delete_pending_means : Means DELETE_PENDING.now delete_pending
unfolding understood everything
delete_pending_means = record { command_is = refl; whole = refl; plain = (refl, refl); no_listing = refl }

pub delete_machines_means : Means DELETE_MACHINES.now delete_machines
unfolding understood everything
delete_machines_means = record { command_is = refl; whole = refl; plain = (refl, refl); no_listing = refl }
