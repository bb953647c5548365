use Rattle.std.proofs.Common.{◌≡◌, ◌++◌, drop}
use Rattle.std.specs.Prelude.{filter}
use Rattle.peer_view.specs.Routers.{has_routes}
use Rattle.peer_view.proofs.routers.with_routes.Given as goal

-- with those of the machines to come these are all
abbrev pub invariant-loop-machine : goal.invariant-loop-machine
invariant-loop-machine l = l.out ++ filter has_routes (drop l.machine-index l.machines) ≡ filter has_routes l.machines
