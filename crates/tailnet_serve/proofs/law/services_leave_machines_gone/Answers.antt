use Rattle.tailnet_serve.proofs.ServiceLawLemmas.{service_leaves_machines_gone}
use Rattle.tailnet_serve.proofs.law.services_leave_machines_gone.Goals as goal

pub returns : goal.returns
returns c = record { machines = service_leaves_machines_gone }
