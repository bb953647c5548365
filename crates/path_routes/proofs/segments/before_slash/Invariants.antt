use Rattle.std.proofs.Common.{◌≡◌, ◌++◌, take, drop}
use Rattle.path_routes.specs.Segments.{before_slash}
use Rattle.path_routes.proofs.segments.before_slash.Given as goal

abbrev pub invariant-loop-i : goal.invariant-loop-i
invariant-loop-i l = before_slash l.text ≡ take l.i l.text ++ before_slash (drop l.i l.text)
