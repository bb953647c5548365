use Rattle.desk_state.proofs.Sameness.{row_stays, told_stays}
use Rattle.desk_state.proofs.laws.kept_rows_stay.Goals as goal

pub returns : goal.returns
returns c = record { told = told_stays; renewed = row_stays }
