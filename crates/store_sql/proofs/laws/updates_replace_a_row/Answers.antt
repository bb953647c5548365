use Rattle.store_sql.proofs.Updates.{update_meta_means, update_users_means, update_auth_keys_means, update_pending_means, update_machines_means, update_policy_means, clear_extras_means}
use Rattle.store_sql.proofs.laws.updates_replace_a_row.Goals as goal

pub returns : goal.returns
returns c = record { meta = update_meta_means; users = update_users_means; auth_keys = update_auth_keys_means; pending = update_pending_means; machines = update_machines_means; policy = update_policy_means; extras = clear_extras_means }
