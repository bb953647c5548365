use Rattle.tailnet_commands.proofs.RunLawLemmas.{desk_followed}
use Rattle.tailnet_commands.proofs.law.connections_at_a_desk_are_followed.Goals as goal

pub returns : goal.returns
returns c = record { followed = desk_followed }
