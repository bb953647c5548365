-- What is said of the rows that an open finds, said of the trees in which it finds them.
use Rattle.std.proofs.Common.{◌∙◌, refl, sym}
use Rattle.net_rows.specs.declared.rows.Rows.{Rows}
use Rattle.keeper_sqlite.specs.Left.{MayBeFound, rows_left}
use Rattle.sqlite.specs.State.{State}
use Rattle.crash_laws.specs.Histories.{LeaveTheRows, LeavesAlone}

pub alone_of : (s : State) (rows : Rows) → LeaveTheRows s rows → LeavesAlone (MayBeFound s) rows
alone_of s rows leave found finds = sym finds.is ∙ leave finds.trees finds.may

pub trees_of : (s : State) (rows : Rows) → LeavesAlone (MayBeFound s) rows → LeaveTheRows s rows
trees_of s rows alone trees may = alone (rows_left trees) (record { trees = trees; may = may; is = refl })
