use Rattle.tailnet_desk.proofs.Decisions.{decision_sound}
use Rattle.tailnet_desk.proofs.laws.decisions_are_sound.Goals as goal

pub returns : goal.returns
returns c = record { sound = decision_sound }
