use Rattle.std.proofs.Common.{◌≡◌, ◌≤◌, ◌-◌}
use Rattle.test_hub.specs.declared.seats.TheConstants.{EACH}
use Rattle.test_hub.proofs.seats.add_users.Given as goal

abbrev pub invariant-loop-number : goal.invariant-loop-number
invariant-loop-number g l = record {
  hub : l.seat.hub ≡ l.hub.view;
  few : l.added ≤ l.number;
  most : l.number ≤ EACH;
}

abbrev pub decreases-loop-number : goal.decreases-loop-number
decreases-loop-number g l = EACH - l.number
