use Rattle.std.proofs.Common.{◌≡◌, map, take}
use Rattle.store_reads.specs.Readable.{cell_in}
use Rattle.store_reads.proofs.cells.cells_of.Given as goal

abbrev pub invariant-loop-at : goal.invariant-loop-at
invariant-loop-at l = l.cells ≡ map cell_in (take l.at l.row)
