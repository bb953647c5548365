use Rattle.std.proofs.Common.{refl}
use Rattle.load_run.proofs.Seeding.{begun_on}
use Rattle.load_run.proofs.load.seed_run.Goals as goal

pub returns : goal.returns
returns c = record { begun = begun_on c.seed.result _ _ _ c.args.plan.now c.args.run.now c.seed.new.watched c.requires.unseeded refl c.seed.ensures.seeded }
