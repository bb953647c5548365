-- Changes that machines' and operators' asks have in common.
use Rattle.std.specs.Prelude.{ℕ, [], ◌∷◌}
use Rattle.net_rows.specs.declared.change.Change.{Change}
use Rattle.net_rows.specs.declared.change.RowKey.TheVariants as gone
use Rattle.net_rows.specs.declared.rows.Rows.{Rows}

-- the row of a machine goes
abbrev pub machine_gone : Rows → ℕ → Change
machine_gone t id = record { puts = []; gone = gone.Machine id ∷ []; next = t.next }
