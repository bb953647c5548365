use Rattle.std.proofs.Common.{◌≡◌, length}
use Rattle.tail_base.specs.Labels.{trimmed_start}
use Rattle.tail_base.proofs.naming.trimmed_start.Given as goal

abbrev pub invariant-loop-rest : goal.invariant-loop-rest
invariant-loop-rest l = trimmed_start l.kept ≡ trimmed_start l.fn.text

abbrev pub decreases-loop-rest : goal.decreases-loop-rest
decreases-loop-rest l = length l.kept
