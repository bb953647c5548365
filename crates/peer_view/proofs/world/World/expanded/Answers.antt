use Rattle.std.specs.Option.{option_copied}
use Rattle.peer_view.proofs.WorldLaws.{expansion_is}
use Rattle.peer_view.proofs.world.World.expanded.Goals as goal

pub returns : goal.returns
returns c =
    let w = c.self.inside in
    record { value = expansion_is w.settings.now (option_copied w.policy) w.tables.now.rows w.live.now w.online w.expanded.now c.args.self.now c.self.invariant c.self.view_is }
