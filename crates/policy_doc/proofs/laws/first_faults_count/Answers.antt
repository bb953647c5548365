use Rattle.policy_doc.proofs.FaultLemmas.{list_faults}
use Rattle.policy_doc.proofs.laws.first_faults_count.Goals as goal

pub returns : goal.returns
returns g c = record { first = list_faults }
