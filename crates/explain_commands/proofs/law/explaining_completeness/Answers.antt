use Rattle.explain_commands.proofs.CompleteLemmas.{explaining_complete}
use Rattle.explain_commands.proofs.law.explaining_completeness.Goals as goal

pub returns : goal.returns
returns c = record { complete = explaining_complete }
