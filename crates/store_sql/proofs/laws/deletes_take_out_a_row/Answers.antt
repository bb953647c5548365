use Rattle.store_sql.proofs.Deletes.{delete_users_means, delete_auth_keys_means, delete_pending_means, delete_machines_means}
use Rattle.store_sql.proofs.laws.deletes_take_out_a_row.Goals as goal

pub returns : goal.returns
returns c = record { users = delete_users_means; auth_keys = delete_auth_keys_means; pending = delete_pending_means; machines = delete_machines_means }
