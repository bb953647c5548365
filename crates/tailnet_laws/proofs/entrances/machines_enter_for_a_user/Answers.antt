use Rattle.tailnet_laws.proofs.EntranceRows.{history_row, step_row}
use Rattle.tailnet_laws.proofs.entrances.machines_enter_for_a_user.Goals as goal

pub returns : goal.returns
returns c = record { step = step_row; history = history_row }
