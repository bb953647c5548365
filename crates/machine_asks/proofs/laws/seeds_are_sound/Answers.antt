use Rattle.machine_asks.proofs.DecisionLaws.{seed_sound}
use Rattle.machine_asks.proofs.laws.seeds_are_sound.Goals as goal

pub returns : goal.returns
returns c = record { seeded = seed_sound }
