use Rattle.policy_doc.proofs.PolicyLemmas.{policy_sound}
use Rattle.policy_doc.proofs.laws.policies_are_sound.Goals as goal

pub returns : goal.returns
returns c = record { sound = policy_sound }
