use Rattle.std.proofs.Common.{◌≡◌, length}
use Rattle.tail_base.specs.Labels.{trimmed_end}
use Rattle.tail_base.proofs.naming.trimmed_end.Given as goal

abbrev pub invariant-loop-rest : goal.invariant-loop-rest
invariant-loop-rest l = trimmed_end l.kept ≡ trimmed_end l.fn.text

abbrev pub decreases-loop-rest : goal.decreases-loop-rest
decreases-loop-rest l = length l.kept
