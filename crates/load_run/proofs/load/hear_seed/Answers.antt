use Rattle.tailnet_desk.specs.Seated.{point_of}
use Rattle.load_run.specs.Watching.{watched_of}
use Rattle.load_run.proofs.Seeding.{seed_heard}
use Rattle.load_run.proofs.load.hear_seed.Goals as goal

pub returns : goal.returns
returns g c =
    let at = watched_of (point_of g.K.Keeper.told g.K.Keeper.faults g.K.Keeper.calls) in
    let asked = c.ask_seed.ensures.asked in
    record { seeded = seed_heard (at c.args.watched.now) (at c.ask_seed.new.watched) asked.reply c.args.text c.args.moment asked.turn c.if-watched.false }
