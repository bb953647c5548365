use Rattle.tailnet_laws.proofs.Taken.{registration_takes}
use Rattle.tailnet_laws.proofs.keys.registrations_take_keys.Goals as goal

pub returns : goal.returns
returns c = record { taken = registration_takes }
