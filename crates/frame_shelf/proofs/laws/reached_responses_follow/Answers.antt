use Rattle.frame_shelf.proofs.RuleLemmas.{reached_on_shelf}
use Rattle.frame_shelf.proofs.laws.reached_responses_follow.Goals as goal

pub returns : goal.returns
returns c = record { follow = reached_on_shelf }
