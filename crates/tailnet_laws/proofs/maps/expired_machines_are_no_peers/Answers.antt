use Rattle.tailnet_laws.proofs.LiveMachines.{no_peer}
use Rattle.tailnet_laws.proofs.maps.expired_machines_are_no_peers.Goals as goal

pub returns : goal.returns
returns c = record { fresh = no_peer }
