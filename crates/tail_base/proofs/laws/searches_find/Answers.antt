use Rattle.tail_base.proofs.Searches.{some_finds, some_found}
use Rattle.tail_base.proofs.laws.searches_find.Goals as goal

pub returns : goal.returns
returns c = record { found = some_found; finds = some_finds }
