use Rattle.std.proofs.Common.{◌≡◌, drop}
use Rattle.std.specs.Prelude.{Some}
use Rattle.desk_state.specs.State.{is_online}
use Rattle.desk_state.specs.declared.presence.MachinePresence.{MachinePresence}
use Rattle.machine_asks.specs.OneMap.{online_ids}
use Rattle.fresh_maps.proofs.ShownLemmas.{gathered}
use Rattle.machine_asks.proofs.map_ask.online_ids.Given as goal

-- what is gathered from here on makes the whole list
abbrev pub invariant-loop-held : goal.invariant-loop-held
invariant-loop-held l = gathered (λ (p : MachinePresence). is_online (Some p.presence)) (λ (p : MachinePresence). p.id) l.ids (drop l.held-index l.presence) ≡ online_ids l.presence
