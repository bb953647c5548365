use Rattle.path_routes.proofs.LeadLemmas.{fixed_lead, ids_lead, rows_lead}
use Rattle.path_routes.proofs.laws.paths_lead.Goals as goal

pub returns : goal.returns
returns c = record { fixed = fixed_lead; ids = ids_lead; rows = rows_lead }
