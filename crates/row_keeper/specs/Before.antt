-- What the rows that a keeper tells say of an earlier moment.
use Rattle.std.specs.Prelude.{Option, IsSome}
use Rattle.net_rows.specs.declared.rows.Rows.{Rows}

-- where rows are told now, rows were told before: a keeper that stops telling doesn't begin again
abbrev pub ToldBefore : Option Rows → Option Rows → Type 0
ToldBefore before now = IsSome now → IsSome before
