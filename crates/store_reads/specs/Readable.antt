-- What a database shows of rows, and what a reading gives.
use Rattle.std.specs.Prelude.{◌≡◌, ◌+◌, ℕ, List, [], ◌∷◌, map, Result, Ok, Err, ⊤, if◌then◌else◌}
use Rattle.std.specs.Str.{is_utf8}
use Rattle.row_keeper.specs.declared.keeper.LoadFault.{LoadFault}
use Rattle.row_keeper.specs.declared.keeper.LoadFault.TheVariants.{Failed, Damaged, NoMemory}
use Rattle.sqlite_value.specs.declared.value.Value.{Value}
use Rattle.sqlite_value.specs.declared.value.Value.TheVariants as value
use Rattle.sqlite_value.specs.Order.{Row}
use Rattle.tailcfg.specs.declared.dns.DnsExtra.{DnsExtra}
use Rattle.store_commits.specs.Kept.{value_of}
pub use Rattle.store_rows.specs.Readable.{AreReadable, IsGivenBack, IsReadable, IsReadableExtra}
use Rattle.store_rows.specs.Rows.{extra_cells}
use Rattle.store_rows.specs.declared.cell.Cell.{Cell}
use Rattle.store_rows.specs.declared.cell.Cell.TheVariants.{Null, Number, Text, Blob, Other}

-- the cell that stands for a value
abbrev pub cell_in : Value → Cell
cell_in value.Null = Null
cell_in (value.Int n) = Number n
cell_in (value.Real x) = Other
cell_in (value.Text bytes) = if is_utf8 bytes then Text bytes else Other
cell_in (value.Blob bytes) = Blob bytes

-- the row that a query shows of these cells
abbrev pub shown_row : List Cell → Row
shown_row cells = map value_of cells

-- what a query shows of the records at the places from this one on
abbrev pub shown_extras : ℕ → List DnsExtra → List Row
shown_extras place [] = []
shown_extras place (x ∷ xs) = shown_row (extra_cells place x) ∷ shown_extras (place + 1) xs

-- The fault is no fault of the rows.
abbrev pub IsOutside : LoadFault → Type 0
IsOutside Failed = ⊤
IsOutside (Damaged kind id) = ⊥
IsOutside NoMemory = ⊤

-- The answer is this, or a fault that is none of the rows.
abbrev pub Yields : {X : Type 0} → Result X LoadFault → X → Type 0
Yields (Ok got) x = got ≡ x
Yields (Err e) x = IsOutside e

-- What is filled is as this says, or the fault is none of the rows.
abbrev pub Fills : {X : Type 0} → Result X LoadFault → Type 0 → Type 0
Fills (Ok done) P = P
Fills (Err e) P = IsOutside e
