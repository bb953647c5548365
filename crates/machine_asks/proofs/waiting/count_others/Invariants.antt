use Rattle.std.proofs.Common.{◌≡◌, ◌≤◌, ◌+◌, drop, length}
use Rattle.net_rows.specs.Shelf.{without}
use Rattle.net_rows.specs.declared.pending.Pending.{Pending}
use Rattle.machine_asks.proofs.waiting.count_others.Given as goal

-- what is counted, and what is left to count
abbrev pub invariant-loop-entry : goal.invariant-loop-entry
invariant-loop-entry l = record {
  few : l.count ≤ l.entry-index;
  all : l.count + length (without (λ (r : Pending). r.id) (drop l.entry-index l.pending) l.id) ≡ length (without (λ (r : Pending). r.id) l.pending l.id);
}
