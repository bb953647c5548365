use Rattle.tailnet_laws.proofs.UsedKeys.{registration_refused, used_key_refused}
use Rattle.tailnet_laws.proofs.keys.used_keys_are_refused.Goals as goal

pub returns : goal.returns
returns c = record { refused = used_key_refused; registrations = registration_refused }
