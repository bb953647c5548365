use Rattle.connections.proofs.Heard.{ended_quiet}
use Rattle.connections.proofs.law.nothing_follows_the_end.Goals as goal

pub returns : goal.returns
returns c = record { quiet = ended_quiet }
