use Rattle.tailnet_commands.proofs.RunLawLemmas.{leaves_machines_gone}
use Rattle.tailnet_commands.proofs.law.runs_leave_machines_gone.Goals as goal

pub returns : goal.returns
returns c = record { machines = leaves_machines_gone }
