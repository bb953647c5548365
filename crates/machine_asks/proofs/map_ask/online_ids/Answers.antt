use Rattle.std.specs.Prelude.{Some}
use Rattle.desk_state.specs.State.{is_online}
use Rattle.desk_state.specs.declared.presence.MachinePresence.{MachinePresence}
use Rattle.fresh_maps.proofs.ShownLemmas.{gathered_all}
use Rattle.machine_asks.proofs.map_ask.online_ids.Goals as goal

pub loop-held-init : goal.loop-held-init
loop-held-init c = rw c.new-ids.ensures.value (gathered_all (λ (p : MachinePresence). is_online (Some p.presence)) (λ (p : MachinePresence). p.id) c.args.presence.now)
