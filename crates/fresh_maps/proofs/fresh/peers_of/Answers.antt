use Rattle.std.proofs.Common.{◌∙◌, refl}
use Rattle.peer_view.specs.Seen.{visible}
use Rattle.peer_view.specs.Shown.{shown}
use Rattle.fresh_maps.proofs.PeerLemmas.{item_visible, mapped_more}
use Rattle.fresh_maps.proofs.fresh.peers_of.Goals as goal

pub routers_of-requires-clause-seen : goal.routers_of-requires-clause-seen
routers_of-requires-clause-seen c = c.as_slice-visible.ensures.value ∙ c.in_ok-visible.ensures.value

pub add_shown-requires-clause-peer : goal.add_shown-requires-clause-peer
add_shown-requires-clause-peer c =
    item_visible c.args.world.now c.args.viewer.now c.in_ok-visible.visible c.as_slice-visible.result.now c.loop-peer.peer-index c.peer-item.result c.in_ok-visible.ensures.value c.as_slice-visible.ensures.value
    c.loop-peer-test.true c.peer-item.is

pub loop-peer-preserved : goal.loop-peer-preserved
loop-peer-preserved c =
    let w = c.args.world.now in
    let v = c.args.viewer.now in
    mapped_more (shown w v (visible w v)) c.as_slice-visible.result.now c.loop-peer.peer-index c.loop-peer.peers c.add_shown.new.rows c.peer-item.result (shown w v (visible w v) c.peer-item.result) c.loop-peer-test.true
    c.peer-item.is c.loop-peer.invariant refl c.in_ok-add_shown.ensures.ok
