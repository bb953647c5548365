use Rattle.tailnet_desk.proofs.KeptTurns.{poll_kept}
use Rattle.crash_laws.proofs.laws.polls_are_kept.Goals as goal

pub returns : goal.returns
returns g c = record { kept = poll_kept _ _ _ _ _ }
