use Rattle.machine_asks.proofs.Repeats.{repeat_is}
use Rattle.machine_asks.proofs.laws.repeats_are_answered.Goals as goal

pub returns : goal.returns
returns c = record { answer = repeat_is }
