use Rattle.store_sql.proofs.Inserts.{insert_meta_means, insert_users_means, insert_auth_keys_means, insert_pending_means, insert_machines_means, insert_extras_means, insert_policy_means}
use Rattle.store_sql.proofs.laws.inserts_add_their_parameters.Goals as goal

pub returns : goal.returns
returns c = record { meta = insert_meta_means; users = insert_users_means; auth_keys = insert_auth_keys_means; pending = insert_pending_means; machines = insert_machines_means; extras = insert_extras_means; policy = insert_policy_means }
