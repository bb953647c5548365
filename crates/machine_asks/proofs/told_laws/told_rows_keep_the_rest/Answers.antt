use Rattle.machine_asks.proofs.Updates.{told_place, told_registration}
use Rattle.machine_asks.proofs.told_laws.told_rows_keep_the_rest.Goals as goal

pub returns : goal.returns
returns c = record { place = told_place; registration = told_registration }
