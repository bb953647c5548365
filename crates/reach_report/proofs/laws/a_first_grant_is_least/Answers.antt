use Rattle.reach_report.proofs.FirstLemmas.{granted, least}
use Rattle.reach_report.proofs.laws.a_first_grant_is_least.Goals as goal

pub returns : goal.returns
returns c = record { least = least; granted = granted }
