use Rattle.std.proofs.Common.{◌≡◌, List, map, take}
use Rattle.std.specs.List.{AllByRecursion}
use Rattle.store_reads.specs.Readable.{IsReadable, shown_row}
use Rattle.store_reads.proofs.BackLemmas.{AreReadSo}
use Rattle.store_reads.proofs.listed.rows_in.Given as goal

abbrev pub invariant-loop-row : goal.invariant-loop-row
invariant-loop-row g l = record {
  read : (xs : List g.row.T.Denot) → l.rows ≡ map (λ x. shown_row (g.T.Loaded.stored x)) xs → AllByRecursion (IsReadable g.T.Loaded.stored g.T.Loaded.Typed) xs → l.all ≡ take l.row-index xs;
  back : AreReadSo g.T.Loaded.stored g.T.Loaded.Typed (take l.row-index l.rows) l.all;
}
