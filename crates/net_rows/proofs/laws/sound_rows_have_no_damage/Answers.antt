use Rattle.net_rows.proofs.Sounds.{no_damage, sound_of}
use Rattle.net_rows.proofs.laws.sound_rows_have_no_damage.Goals as goal

pub returns : goal.returns
returns c = record { sound = λ t. (sound_of t, no_damage t) }
