use Rattle.std.proofs.Common.{◌≡◌, ◌++◌, map, drop, false}
use Rattle.std.specs.Char.{to_ascii_lowercase}
use Rattle.tail_base.specs.Labels.{squeezed}
use Rattle.tail_base.proofs.naming.squeezed.Given as goal

abbrev pub invariant-loop-b : goal.invariant-loop-b
invariant-loop-b l = l.text.items ++ squeezed l.in_run (map to_ascii_lowercase (drop l.b-index l.host)) ≡ squeezed false (map to_ascii_lowercase l.host)
