use Rattle.std.proofs.Common.{◌≡◌, ◌++◌, drop}
use Rattle.std.specs.Prelude.{map}
use Rattle.desk_state.specs.Lines.{key_line}
use Rattle.admin_asks.specs.Keys.{key_lines}
use Rattle.admin_asks.proofs.key_asks.key_lines.Given as goal

abbrev pub invariant-loop-key : goal.invariant-loop-key
invariant-loop-key l = l.lines ++ map (key_line l.tables.rows.users) (drop l.key-index l.tables.rows.keys) ≡ key_lines l.tables.rows
