use Rattle.std.proofs.Common.{◌≡◌, take}
use Rattle.std.specs.Prelude.{map}
use Rattle.desk_state.specs.State.{offline_at}
use Rattle.tailnet_desk.proofs.opening.offline_since.Given as goal

abbrev pub invariant-loop-machine : goal.invariant-loop-machine
invariant-loop-machine l = l.made.items ≡ map (λ m. offline_at l.now m.id) (take l.machine-index l.machines)
