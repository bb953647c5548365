use Rattle.std.proofs.Common.{◌≡◌, ◌≤◌, ◌+◌, drop, length}
use Rattle.std.specs.Prelude.{filter}
use Rattle.machine_asks.specs.Attach.{waits_beside}
use Rattle.machine_asks.proofs.attaching.count_waiting.Given as goal

-- what is counted, and what is left to count
abbrev pub invariant-loop-held : goal.invariant-loop-held
invariant-loop-held l = record {
  few : l.count ≤ l.held-index;
  all : l.count + length (filter (waits_beside l.id) (drop l.held-index l.attached)) ≡ length (filter (waits_beside l.id) l.attached);
}
