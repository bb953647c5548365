use Rattle.machine_asks.proofs.Updates.{asking_live}
use Rattle.machine_asks.proofs.map_ask.one_map.Goals as goal

pub map_decision-requires-clause-live : goal.map_decision-requires-clause-live
map_decision-requires-clause-live c = asking_live c.args.at.now c.args.machine.now c.args.node.now c.in_ok-row.row.now c.in_ok-row.ensures.value
