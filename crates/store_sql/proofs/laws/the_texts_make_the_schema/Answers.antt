use Rattle.store_sql.proofs.Meanings.{meta_made, users_made, auth_keys_made, pending_made, machines_made, extras_made, policy_made, whole_made}
use Rattle.store_sql.proofs.laws.the_texts_make_the_schema.Goals as goal

pub returns : goal.returns
returns c = record { meta = meta_made; users = users_made; auth_keys = auth_keys_made; pending = pending_made; machines = machines_made; extras = extras_made; policy = policy_made; whole = whole_made }
