use Rattle.store_sql.proofs.Selects.{select_meta_means, select_users_means, select_auth_keys_means, select_pending_means, select_machines_means, select_extras_means, select_policy_means}
use Rattle.store_sql.proofs.laws.selects_show_all_rows.Goals as goal

pub returns : goal.returns
returns c = record { meta = select_meta_means; users = select_users_means; auth_keys = select_auth_keys_means; pending = select_pending_means; machines = select_machines_means; extras = select_extras_means; policy = select_policy_means }
