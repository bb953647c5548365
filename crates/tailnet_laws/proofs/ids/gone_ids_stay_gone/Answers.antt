use Rattle.tailnet_laws.proofs.GoneIds.{gone_keys_stay, gone_machines_stay, gone_pending_stays, gone_users_stay}
use Rattle.tailnet_laws.proofs.ids.gone_ids_stay_gone.Goals as goal

pub returns : goal.returns
returns c = record { users = gone_users_stay; keys = gone_keys_stay; pending = gone_pending_stays; machines = gone_machines_stay }
