use Rattle.policy_asks.proofs.SavingLaws.{kept_changes_none, kept_names_none}
use Rattle.policy_asks.proofs.laws.kept_texts_change_nothing.Goals as goal

pub returns : goal.returns
returns c = record { rows = kept_changes_none; policy = kept_names_none }
