use Rattle.tail_base.proofs.SortedLemmas.{sorted_once_any, sorted_once_rises}
use Rattle.tail_base.proofs.laws.sorted_lists_rise.Goals as goal

pub returns : goal.returns
returns g c = record {
  rise = sorted_once_rises g.T.Ord.cmp g.met.T.Ord.total;
  same = λ same test xs. sorted_once_any g.T.Ord.cmp same test xs;
}
