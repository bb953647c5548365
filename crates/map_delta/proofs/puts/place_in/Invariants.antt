use Rattle.map_delta.proofs.PlaceLemmas.{AllLess}
use Rattle.map_delta.proofs.puts.place_in.Given as goal

abbrev pub invariant-loop-i : goal.invariant-loop-i
invariant-loop-i g l = AllLess g.T.Listed.number l.rows l.id l.i
