use Rattle.tailnet_desk.specs.Seated.{point_of}
use Rattle.load_run.specs.Watching.{watched_of}
use Rattle.load_run.proofs.Seeding.{load_seeded_on}
use Rattle.load_run.proofs.load.seed.Goals as goal

pub returns-in-Ok : goal.returns-in-Ok
returns-in-Ok g c =
    let at = watched_of (point_of g.K.Keeper.told g.K.Keeper.faults g.K.Keeper.calls) in
    record { seeded = load_seeded_on c.hear_seed.result (at c.args.watched.now) (at c.hear_seed.new.watched) c.in-Ok.text c.clamp.result c.in-Ok.ensures.value c.clamp.ensures.value c.hear_seed.ensures.seeded }
