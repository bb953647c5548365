-- What the getters read.
use Rattle.std.proofs.Common.{◌≡◌}
use Rattle.clap.proofs.WalkLemmas.{first_value-rows}
use Rattle.clap.specs.Walk.{Text, first_of, rows_of}
use Rattle.clap.specs.Matches.{first_value}
use Rattle.clap.specs.declared.parser.matches.Found.{Found}

-- the first value of an id, by the rows
pub first_found : (f : Found) (id : Text) → first_value f id ≡ first_of id (rows_of f)
first_found f id = first_value-rows f id
