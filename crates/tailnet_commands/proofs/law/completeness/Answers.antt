use Rattle.tailnet_commands.proofs.CompleteLemmas.{complete}
use Rattle.tailnet_commands.proofs.law.completeness.Goals as goal

pub returns : goal.returns
returns c = record { complete = complete }
