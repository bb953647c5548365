use Rattle.reach_report.proofs.ReachLaws.{listed_reach, reach_listed, reached_listed}
use Rattle.reach_report.proofs.laws.a_report_is_reach.Goals as goal

pub returns : goal.returns
returns c = record {
  listed = λ policy rows live x rules sound. listed_reach policy rows live rules sound x;
  whole = λ policy rows live x rules sound. reach_listed policy rows live rules sound x;
  found = λ policy rows live a b rules sound. reached_listed policy rows live rules sound a b;
}
