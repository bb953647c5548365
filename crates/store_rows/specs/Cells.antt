-- How single values are stored.
use Rattle.std.specs.Prelude.{ℤ, pos, Bool, true, false, Option, Some, None}
use Rattle.net_addr.specs.Moments.{IsMoment}
use Rattle.store_rows.specs.declared.cell.Cell.{Cell}
use Rattle.store_rows.specs.declared.cell.Cell.TheVariants.{Null, Number}

-- a truth value is 0 or 1
abbrev pub truth_cell : Bool → Cell
truth_cell false = Number (pos 0)
truth_cell true = Number (pos 1)

-- a moment is its seconds; none is NULL
abbrev pub expiry_cell : Option ℤ → Cell
expiry_cell None = Null
expiry_cell (Some n) = Number n

-- there is none, or it is a moment
abbrev pub IsExpiry : Option ℤ → Type 0
IsExpiry None = Unit {0}
IsExpiry (Some n) = IsMoment n
