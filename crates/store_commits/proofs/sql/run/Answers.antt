use Rattle.std.proofs.Common.{Ok}
use Rattle.store_commits.proofs.Pending.{ran_well}
use Rattle.store_commits.proofs.sql.run.Goals as goal

pub returns-clause-ran : goal.returns-clause-ran
returns-clause-ran g c clean = ran_well g.S.Store _ _ _ _ (Ok c.in_ok-execute.field-0) c.in_ok-execute.ensures.ended c.in_ok-execute.ensures.runs clean
