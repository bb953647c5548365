use Rattle.status_laws.proofs.CauseLemmas.{have_causes}
use Rattle.status_laws.proofs.laws.statuses_have_causes.Goals as goal

pub returns : goal.returns
returns c = record { causes = have_causes }
