use Rattle.tailnet_laws.proofs.ClosedRules.{closed_filter, closed_peers, none_seen}
use Rattle.tailnet_laws.proofs.peers.closed_policies_show_nobody.Goals as goal

pub returns : goal.returns
returns c = record {
  sight = λ w policy m p is closed. none_seen policy closed w m p is;
  peers = λ s policy m is closed. closed_peers policy closed s m is;
  filter = λ s policy m is closed. closed_filter policy closed s m is;
}
