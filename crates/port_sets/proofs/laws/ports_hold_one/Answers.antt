use Rattle.port_sets.proofs.RangeLemmas.{one_held}
use Rattle.port_sets.proofs.laws.ports_hold_one.Goals as goal

pub returns : goal.returns
returns c = record { one = one_held }
