use Rattle.tailnet_laws.proofs.Entered.{history_enters, step_enters}
use Rattle.tailnet_laws.proofs.entrances.machines_enter_by_key_or_admission.Goals as goal

pub returns : goal.returns
returns c = record { step = step_enters; history = history_enters }
