use Rattle.std.proofs.Common.{◌∙◌}
use Rattle.fresh_maps.proofs.PeerLemmas.{item_visible}
use Rattle.test_views.proofs.rows.add_shown_to.Goals as goal

pub routers_of-requires-clause-seen : goal.routers_of-requires-clause-seen
routers_of-requires-clause-seen c = c.as_slice-visible.ensures.value ∙ c.in_ok-visible.ensures.value

pub shown-requires-clause-peer : goal.shown-requires-clause-peer
shown-requires-clause-peer c =
    item_visible c.args.world.now c.args.viewer.now c.in_ok-visible.visible c.as_slice-visible.result.now c.loop-peer.peer-index c.peer-item.result c.in_ok-visible.ensures.value c.as_slice-visible.ensures.value
    c.loop-peer-test.true c.peer-item.is
