use Rattle.std.proofs.Common.{refl}
use Rattle.std.specs.Option.{option_copied}
use Rattle.peer_view.proofs.WorldLaws.{world_ascends, world_pair}
use Rattle.peer_view.proofs.pair.reaches.Goals as goal

pub id_reaches-requires : goal.id_reaches-requires
id_reaches-requires c =
    let w = c.world.inside in
    record { ascending = world_ascends w.expanded.now (option_copied w.policy) w.tables.now.rows w.live.now w.expanded.now.sites c.world.invariant refl }

pub returns : goal.returns
returns c =
    let w = c.world.inside in
    record {
      value = world_pair w.settings.now (option_copied w.policy) w.tables.now.rows w.live.now w.online w.expanded.now c.args.world.now c.world.invariant c.world.view_is c.rules-rules.ensures.sound
          w.expanded.now.groups w.expanded.now.rules w.expanded.now.sites refl refl refl c.args.a.id c.args.b.id c.id_reaches.result c.id_reaches.ensures.value;
    }
