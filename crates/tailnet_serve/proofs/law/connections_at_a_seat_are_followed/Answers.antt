use Rattle.tailnet_serve.proofs.ServiceLawLemmas.{seat_followed}
use Rattle.tailnet_serve.proofs.law.connections_at_a_seat_are_followed.Goals as goal

pub returns : goal.returns
returns c = record { followed = seat_followed }
