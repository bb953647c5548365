use Rattle.policy_doc.proofs.GrantFaults.{grant_faults}
use Rattle.policy_doc.proofs.laws.first_faulty_grants_count.Goals as goal

pub returns : goal.returns
returns c = record { first = grant_faults }
