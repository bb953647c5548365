use Rattle.std.proofs.Common.{◌≡◌, ◌++◌, length}
use Rattle.std.specs.List.{All}
use Rattle.store_rows.specs.Lists.{list_text}
use Rattle.store_rows.proofs.list.text_of_list.Given as goal

abbrev pub invariant-loop-rest : goal.invariant-loop-rest
invariant-loop-rest g l = record {
  written : l.text ++ list_text g.T.Listed.text l.rest ≡ list_text g.T.Listed.text l.items;
  fit : All g.T.Listed.Fits l.rest → All g.T.Listed.Fits l.items;
}

abbrev pub decreases-loop-rest : goal.decreases-loop-rest
decreases-loop-rest g l = length l.rest
