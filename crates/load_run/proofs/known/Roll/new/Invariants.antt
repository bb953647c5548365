use Rattle.std.proofs.Common.{◌≡◌, ◌≤◌, ◌-◌, replicate}
use Rattle.load_run.specs.Knowing as spec
use Rattle.load_run.proofs.known.Roll.new.Given as goal

abbrev pub invariant-loop-made : goal.invariant-loop-made
invariant-loop-made l = record {
  made : l.roll.items ≡ replicate l.made spec.nothing;
  most : l.made ≤ l.machines;
}

abbrev pub decreases-loop-made : goal.decreases-loop-made
decreases-loop-made l = l.machines - l.made
