use Rattle.tailnet_laws.proofs.Hiding.{drained_hidden, expired_hidden}
use Rattle.tailnet_laws.proofs.Replied.{reply_hides}
use Rattle.tailnet_laws.proofs.maps.expired_machines_are_in_no_map.Goals as goal

pub returns : goal.returns
returns c = record { hides = expired_hidden; replies = reply_hides; drains = drained_hidden }
