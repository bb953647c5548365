use Rattle.tailnet_desk.proofs.SoundHistories.{poll_keeps}
use Rattle.tailnet_desk.proofs.laws.polls_leave_tables.Goals as goal

pub returns : goal.returns
returns c = record { rows = λ s e poll. (poll_keeps s e poll).rows; policy = λ s e poll. (poll_keeps s e poll).policy }
