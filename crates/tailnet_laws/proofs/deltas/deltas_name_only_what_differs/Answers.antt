use Rattle.tailnet_laws.proofs.Differences.{delta_names, equal_unnamed}
use Rattle.tailnet_laws.proofs.deltas.deltas_name_only_what_differs.Goals as goal

pub returns : goal.returns
returns c = record { named = delta_names; equal = equal_unnamed }
