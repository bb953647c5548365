use Rattle.policy_doc.proofs.Former.{keys_without, rules_without, section_without}
use Rattle.policy_doc.proofs.laws.texts_without_grants_read_as_before.Goals as goal

pub returns : goal.returns
returns c = record { keys = keys_without; absent = section_without; rules = rules_without }
