use Rattle.std.proofs.Common.{sym, ◌∙◌}
use Rattle.fresh_maps.proofs.PeerLemmas.{node_inside}
use Rattle.test_views.proofs.rows.add_shown_at.Goals as goal

pub add_shown_to-requires : goal.add_shown_to-requires
add_shown_to-requires c = record { viewer = node_inside c.args.world.now c.args.id c.in-Some.viewer (sym c.machine.ensures.value ∙ c.in-Some.is) }
