use Rattle.tailnet_serve.proofs.Completing.{serving_complete}
use Rattle.tailnet_serve.proofs.law.serving_completeness.Goals as goal

pub returns : goal.returns
returns c = record { complete = serving_complete }
