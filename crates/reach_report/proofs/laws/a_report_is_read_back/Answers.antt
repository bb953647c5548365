use Rattle.reach_report.proofs.BackLemmas.{read_again}
use Rattle.reach_report.proofs.laws.a_report_is_read_back.Goals as goal

pub returns : goal.returns
returns c = record { back = read_again }
