use Rattle.status_laws.proofs.CompleteLemmas.{checking_complete, loading_complete, operating_complete}
use Rattle.status_laws.proofs.laws.commands_complete.Goals as goal

pub returns : goal.returns
returns c = record { checking = checking_complete; loading = loading_complete; operating = operating_complete }
