use Rattle.std.proofs.Common.{length}
use Rattle.std.specs.List.{All}
use Rattle.store_rows.proofs.ListLemmas.{Leads}
use Rattle.store_rows.proofs.list.spelled_list.Given as goal

abbrev pub invariant-loop-at : goal.invariant-loop-at
invariant-loop-at g l = record {
  leads : Leads g.T.Listed.of_text l.items l.rest l.text;
  fit : All g.T.Listed.Fits l.items;
}

abbrev pub decreases-loop-at : goal.decreases-loop-at
decreases-loop-at g l = length l.rest
