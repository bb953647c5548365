use Rattle.port_sets.proofs.ReadLemmas.{meant}
use Rattle.port_sets.proofs.ports.Ports.read.Goals as goal

pub returns-clause-meaning : goal.returns-clause-meaning
returns-clause-meaning c = meant c.args.text.now _ c.in_ok-ranges_of.ensures.value
