use Rattle.tailnet_commands.proofs.SeedLemmas.{unseeded, seeded_once}
use Rattle.tailnet_commands.proofs.seeding.seed_desk.Goals as goal

pub returns-in-None : goal.returns-in-None
returns-in-None g c = record { seeded = rw c.in-None.is (unseeded _ _); safe = λ h. h }

pub returns-in-Some : goal.returns-in-Some
returns-in-Some g c = record { seeded = rw c.in-Some.is (seeded_once _ _ _ _ _ c.ask_seed.ensures.seeded); safe = c.ask_seed.ensures.safe }
