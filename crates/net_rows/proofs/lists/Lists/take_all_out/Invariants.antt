use Rattle.std.proofs.Common.{◌≡◌, List, drop}
use Rattle.net_rows.specs.declared.change.Row.{Row}
use Rattle.net_rows.specs.Rows.{take_all_out}
use Rattle.net_rows.specs.Held.{Suffices}
use Rattle.net_rows.proofs.lists.Lists.take_all_out.Given as goal

-- what is left leads to the same end, and no place is lost
abbrev pub invariant-loop-key : goal.invariant-loop-key
invariant-loop-key l = record {
  rows : take_all_out l.self.rows (drop l.key-index l.gone) ≡ take_all_out l.fn.self.rows l.gone;
  spare : (rest : List Row) → Suffices l.fn.self.spare rest → Suffices l.self.spare rest;
}
