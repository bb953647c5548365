use Rattle.wire_write.specs.Routes.{behind}
use Rattle.wire_write.proofs.RouteLemmas.{Passed}
use Rattle.wire_write.proofs.routes.place_of.Given as goal

abbrev pub invariant-loop-i : goal.invariant-loop-i
invariant-loop-i l = Passed l.route l.i (behind l.routes)
