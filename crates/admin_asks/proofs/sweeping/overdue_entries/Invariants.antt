use Rattle.std.proofs.Common.{◌≡◌, ◌++◌, drop}
use Rattle.admin_asks.specs.Sweep.{overdue_entries}
use Rattle.admin_asks.proofs.sweeping.overdue_entries.Given as goal

abbrev pub invariant-loop-entry : goal.invariant-loop-entry
invariant-loop-entry l = l.gone ++ overdue_entries l.at (drop l.entry-index l.entries) ≡ overdue_entries l.at l.entries
