use Rattle.filter_compile.proofs.IsolationLemmas.{filter_kept, filter_near}
use Rattle.filter_compile.proofs.laws.who_does_not_reach_a_machine_adds_nothing.Goals as goal

pub returns : goal.returns
returns c = record { kept = filter_kept; near = filter_near }
