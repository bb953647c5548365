use Rattle.port_sets.proofs.ReadLemmas.{read_ports}
use Rattle.port_sets.proofs.laws.read_ports_are_some.Goals as goal

pub returns : goal.returns
returns c = record { some = read_ports }
