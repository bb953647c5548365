use Rattle.tailnet_desk.proofs.Histories.{history_of}
use Rattle.tailnet_desk.proofs.laws.turns_are_a_history.Goals as goal

pub returns : goal.returns
returns c = record { history = history_of }
