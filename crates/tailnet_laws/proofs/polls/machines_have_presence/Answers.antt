use Rattle.tailnet_desk.specs.Opening.{opening}
use Rattle.tailnet_desk.specs.History.{replay}
use Rattle.tailnet_laws.proofs.Presence.{one_presence, opening_present, replay_present}
use Rattle.tailnet_laws.proofs.polls.machines_have_presence.Goals as goal

pub returns : goal.returns
returns c = record {
  opened = λ settings rows moment count es m sound legal inside.
      one_presence (replay (opening settings rows moment) es) m (replay_present (opening settings rows moment) es (opening_present settings rows moment sound)) inside;
  stays = λ s count es legal held. replay_present s es held;
}
