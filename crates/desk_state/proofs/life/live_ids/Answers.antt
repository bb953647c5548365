use Rattle.std.proofs.Common.{[], ◌∙◌}
use Rattle.desk_state.proofs.GatheredLive.{with_live_is}
use Rattle.desk_state.proofs.life.live_ids.Goals as goal

pub loop-machine-init : goal.loop-machine-init
loop-machine-init c = rw (c.from_vec-ids.ensures.value ∙ c.in_ok-with_capacity.ensures.items) (with_live_is c.args.at.now [] c.args.at.now.rows.machines)
