use Rattle.machine_asks.proofs.Repeats.{repeat_keeps}
use Rattle.machine_asks.proofs.laws.repeats_change_nothing.Goals as goal

pub returns : goal.returns
returns c = record { rows = repeat_keeps }
