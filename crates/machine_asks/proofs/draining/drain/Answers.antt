use Rattle.machine_asks.proofs.Drains.{session_found}
use Rattle.machine_asks.proofs.draining.drain.Goals as goal

pub returns-clause-found : goal.returns-clause-found
returns-clause-found c = session_found c.args.at.now c.args.machine.now c.args.handle.now c.in_ok-decision.decision c.in_ok-decision.ensures.value
