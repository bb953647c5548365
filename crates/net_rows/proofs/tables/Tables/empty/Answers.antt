use Rattle.net_rows.proofs.Empty.{damage-empty}
use Rattle.net_rows.proofs.tables.Tables.empty.Goals as goal

pub invariant_of-result : goal.invariant_of-result
invariant_of-result c = rw c.empty.ensures.rows damage-empty
