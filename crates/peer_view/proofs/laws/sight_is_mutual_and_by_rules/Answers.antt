use Rattle.peer_view.proofs.SightLaws.{sight_mutual, sight_rules}
use Rattle.peer_view.proofs.laws.sight_is_mutual_and_by_rules.Goals as goal

pub returns : goal.returns
returns c = record { same = sight_mutual; rules = sight_rules }
