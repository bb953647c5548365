use Rattle.tailnet_serve.proofs.Completing.{serves_well}
use Rattle.tailnet_serve.proofs.law.well_served_connections.Goals as goal

pub returns : goal.returns
returns c = record { well = serves_well }
