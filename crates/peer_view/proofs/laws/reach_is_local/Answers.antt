use Rattle.peer_view.proofs.ReachLaws.{local_reach}
use Rattle.peer_view.proofs.LiveLaws.{live_reach, node_reach}
use Rattle.peer_view.proofs.laws.reach_is_local.Goals as goal

pub returns : goal.returns
returns c = record { sites = local_reach; tables = live_reach; nodes = node_reach }
