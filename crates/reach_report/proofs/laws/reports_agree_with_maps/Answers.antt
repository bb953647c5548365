use Rattle.reach_report.proofs.MapLaws.{agree}
use Rattle.reach_report.proofs.laws.reports_agree_with_maps.Goals as goal

pub returns : goal.returns
returns c = record { same = λ settings policy rows live online m id rules sound here. agree settings policy rows live online rules sound m id here }
