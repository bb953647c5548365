use Rattle.tailnet_laws.proofs.LiveRows.{drained_shown, own_live, peer_shown, replied_shown}
use Rattle.tailnet_laws.proofs.peers.maps_show_live_machines.Goals as goal

pub returns : goal.returns
returns c = record {
  peers = peer_shown;
  own = own_live;
  first = λ s m handle seq peer sound inside. peer_shown s m peer sound inside;
  drains = drained_shown;
  replies = replied_shown;
}
