-- Cells that a database gives back.
use Rattle.std.proofs.Common.{◌≡◌, List, [], ◌∷◌, map, refl, ap₂}
use Rattle.std.specs.List.{AllByRecursion}
use Rattle.store_commits.specs.Kept.{value_of}
use Rattle.store_rows.specs.declared.cell.Cell.{Cell}
use Rattle.store_rows.specs.declared.cell.Cell.TheVariants.{Null, Number, Text, Blob, Other}
use Rattle.store_reads.specs.Readable.{IsGivenBack, cell_in, shown_row}

given_back : (c : Cell) → IsGivenBack c → cell_in (value_of c) ≡ c
given_back Null h = refl
given_back (Number n) h = refl
given_back (Text bytes) h = rw h refl
given_back (Blob bytes) h = refl
given_back Other h = absurd h

pub all_given_back : (cells : List Cell) → AllByRecursion IsGivenBack cells → map cell_in (shown_row cells) ≡ cells
all_given_back [] h = refl
all_given_back (c ∷ cs) h = ap₂ ◌∷◌ (given_back c h.0) (all_given_back cs h.1)
