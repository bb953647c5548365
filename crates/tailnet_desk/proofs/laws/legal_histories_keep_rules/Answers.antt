use Rattle.tailnet_desk.proofs.SoundHistories.{legal_beginning, legal_rises, legal_sound}
use Rattle.tailnet_desk.proofs.laws.legal_histories_keep_rules.Goals as goal

pub returns : goal.returns
returns c = record { sound = legal_sound; rises = legal_rises; beginnings = legal_beginning }
