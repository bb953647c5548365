use Rattle.std.proofs.Common.{◌≡◌, take}
use Rattle.std.specs.Prelude.{map}
use Rattle.peer_view.specs.Seen.{visible}
use Rattle.peer_view.specs.Shown.{shown}
use Rattle.fresh_maps.proofs.fresh.peers_of.Given as goal

abbrev pub invariant-loop-peer : goal.invariant-loop-peer
invariant-loop-peer l = l.peers ≡ map (shown l.world l.viewer (visible l.world l.viewer)) (take l.peer-index l.visible)
