-- Laws on histories, put on a connection and on a run.
use Rattle.std.proofs.Common.{sym, subst}
use Rattle.desk_state.specs.State.{State}
use Rattle.tailnet_desk.specs.Opening.{opening}
use Rattle.tailnet_laws.specs.Gone.{IsGoneMachine}
use Rattle.tailnet_laws.proofs.GoneIds.{gone_machines_stay}
use Rattle.tailnet_laws.proofs.SoundStates.{chain_followed}
use Rattle.tailnet_commands.specs.RunLaws.{DeskIsFollowed, LeavesMachinesGone}

pub desk_followed : DeskIsFollowed
desk_followed given more limit held closed before after p q talk sound = chain_followed p _ q talk.chain sound

pub leaves_machines_gone : LeavesMachinesGone
leaves_machines_gone closing settings seed old new run id gone =
    subst (λ (s : State). IsGoneMachine s.rows id) (sym run.history.state)
    (gone_machines_stay (opening settings.tailnet run.rows run.moment) run.keeping.faults run.history.entries id run.rules run.sound run.history.legal gone)
