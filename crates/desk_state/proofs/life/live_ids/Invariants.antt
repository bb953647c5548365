use Rattle.std.proofs.Common.{◌≡◌, drop}
use Rattle.desk_state.specs.State.{live_ids}
use Rattle.desk_state.proofs.GatheredLive.{with_live}
use Rattle.desk_state.proofs.life.live_ids.Given as goal

-- with the ids of the machines to come these are all
abbrev pub invariant-loop-machine : goal.invariant-loop-machine
invariant-loop-machine l = with_live l.at l.ids (drop l.machine-index l.at.rows.machines) ≡ live_ids l.at
