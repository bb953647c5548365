use Rattle.std.proofs.Common.{ap}
use Rattle.std.specs.Option.{option_copied}
use Rattle.peer_view.proofs.WorldLaws.{row_looked_up, row_missing}
use Rattle.peer_view.proofs.world.World.machine_at.Goals as goal

pub returns-in-None : goal.returns-in-None
returns-in-None c =
    let w = c.self.inside in
    record {
      value = row_missing w.settings.now (option_copied w.policy) w.tables.now.rows w.live.now w.online c.args.self.now c.self.view_is c.self.invariant.sound c.args.site.now c.requires.among
          (option_copied c.machine_near.result) c.machine_near.ensures.value (ap option_copied c.in-None.is);
    }

pub returns-in-Some : goal.returns-in-Some
returns-in-Some c =
    let w = c.self.inside in
    record {
      value = row_looked_up w.settings.now (option_copied w.policy) w.tables.now.rows w.live.now w.online c.args.self.now c.self.view_is c.self.invariant.sound c.args.site.now c.requires.among
          (option_copied c.machine_near.result) c.machine_near.ensures.value c.in-Some.row.now (ap option_copied c.in-Some.is) c.is_listed_near.result c.is_listed_near.ensures.value;
    }
