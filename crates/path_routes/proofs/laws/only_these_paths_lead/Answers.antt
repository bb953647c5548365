use Rattle.path_routes.proofs.OnlyLemmas.{leads_nowhere, only_lead}
use Rattle.path_routes.proofs.laws.only_these_paths_lead.Goals as goal

pub returns : goal.returns
returns c = record { only = only_lead; nowhere = leads_nowhere }
