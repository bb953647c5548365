use Rattle.peer_view.proofs.OpenLaws.{open_sight}
use Rattle.peer_view.proofs.laws.all_see_all_without_policy.Goals as goal

pub returns : goal.returns
returns c = record { all = open_sight }
