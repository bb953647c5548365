use Rattle.desk_state.proofs.Sameness.{row_kept, told_kept}
use Rattle.desk_state.proofs.laws.rows_that_stay_are_kept.Goals as goal

pub returns : goal.returns
returns c = record { told = told_kept; renewed = row_kept }
