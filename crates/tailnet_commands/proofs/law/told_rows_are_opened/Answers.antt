use Rattle.tailnet_commands.proofs.CompleteLemmas.{refuses_told, serves_told}
use Rattle.tailnet_commands.proofs.law.told_rows_are_opened.Goals as goal

pub returns : goal.returns
returns c = record { serves = serves_told; refuses = refuses_told }
