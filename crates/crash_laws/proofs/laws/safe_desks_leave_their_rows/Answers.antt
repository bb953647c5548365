use Rattle.std.proofs.Common.{refl}
use Rattle.keeper_sqlite.specs.Left.{rows_left}
use Rattle.sqlite_trees.proofs.Doubt.{clean_of}
use Rattle.crash_laws.proofs.laws.safe_desks_leave_their_rows.Goals as goal

pub returns : goal.returns
returns g c = record { safe = λ d safe clean tells trees may. safe (clean_of _ clean) tells (rows_left trees) (record { trees = trees; may = may; is = refl }) }
