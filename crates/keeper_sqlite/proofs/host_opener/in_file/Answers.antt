use Rattle.keeper_sqlite.proofs.Knowing.{kept_new}
use Rattle.keeper_sqlite.proofs.host_opener.in_file.Goals as goal

pub invariant_of-result : goal.invariant_of-result
invariant_of-result c = record { is_known_once_loaded = kept_new _ }
