use Rattle.std.proofs.Common.{◌≡◌, take}
use Rattle.wire_write.specs.Routes.{behind, by_suffix}
use Rattle.wire_write.proofs.routes.by_suffix.Given as goal

abbrev pub invariant-loop-route : goal.invariant-loop-route
invariant-loop-route l = behind l.made.items ≡ by_suffix (take l.route-index l.routes)
