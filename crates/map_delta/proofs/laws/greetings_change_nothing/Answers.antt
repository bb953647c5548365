use Rattle.map_delta.proofs.FirstLaws.{greeting_law}
use Rattle.map_delta.proofs.laws.greetings_change_nothing.Goals as goal

pub returns : goal.returns
returns c = record { stays = greeting_law }
