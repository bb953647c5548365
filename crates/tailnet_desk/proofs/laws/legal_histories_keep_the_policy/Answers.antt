use Rattle.net_rows.proofs.Sounds.{no_damage}
use Rattle.tailnet_desk.proofs.SoundHistories.{legal_in_force}
use Rattle.tailnet_desk.proofs.laws.legal_histories_keep_the_policy.Goals as goal

pub returns : goal.returns
returns c = record {
  policy = λ s count es hold sound held legal. legal_in_force s count es hold (no_damage s.rows sound) held legal;
}
