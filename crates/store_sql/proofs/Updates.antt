-- What the texts mean: computed.
use Rattle.std.proofs.Common.{refl}
use Rattle.sqlite_tied.specs.Compute.{everything}
use Rattle.sqlite.specs.Listing.{understood}
use Rattle.store_sql.specs.Commands.{update_meta, update_users, update_auth_keys, update_pending, update_machines, update_policy, clear_extras}
use Rattle.store_sql.specs.Means.{Means}
use Rattle.store_sql.specs.declared.texts.TheConstants.{CLEAR_EXTRAS, UPDATE_AUTH_KEYS, UPDATE_MACHINES, UPDATE_META, UPDATE_PENDING, UPDATE_POLICY, UPDATE_USERS}

pub update_meta_means : Means UPDATE_META.now update_meta
unfolding understood everything
update_meta_means = record { command_is = refl; whole = refl; plain = (refl, refl); no_listing = refl }

pub update_users_means : Means UPDATE_USERS.now update_users
unfolding understood everything
update_users_means = record { command_is = refl; whole = refl; plain = (refl, refl); no_listing = refl }

pub update_auth_keys_means : Means UPDATE_AUTH_KEYS.now update_auth_keys
unfolding understood everything
update_auth_keys_means = record { command_is = refl; whole = refl; plain = (refl, refl); no_listing = refl }

pub update_pending_means : Means UPDATE_PENDING.now update_pending
unfolding understood everything
update_pending_means = record { command_is = refl; whole = refl; plain = (refl, refl); no_listing = refl }

pub update_machines_means : Means UPDATE_MACHINES.now update_machines
unfolding understood everything
update_machines_means = record { command_is = refl; whole = refl; plain = (refl, refl); no_listing = refl }

pub update_policy_means : Means UPDATE_POLICY.now update_policy
unfolding understood everything
update_policy_means = record { command_is = refl; whole = refl; plain = (refl, refl); no_listing = refl }

pub clear_extras_means : Means CLEAR_EXTRAS.now clear_extras
unfolding understood everything
clear_extras_means = record { command_is = refl; whole = refl; plain = (refl, refl); no_listing = refl }
