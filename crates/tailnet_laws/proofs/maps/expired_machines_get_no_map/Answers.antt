use Rattle.tailnet_laws.proofs.LiveMachines.{attach_refused, drain_ended, map_refused, update_refused}
use Rattle.tailnet_laws.proofs.maps.expired_machines_get_no_map.Goals as goal

pub returns : goal.returns
returns c = record { map = map_refused; update = update_refused; attach = attach_refused; drain = drain_ended }
