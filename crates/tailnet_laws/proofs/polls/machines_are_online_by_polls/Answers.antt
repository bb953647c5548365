use Rattle.tailnet_desk.specs.Opening.{opening}
use Rattle.tailnet_laws.proofs.Online.{opening_online, replay_online}
use Rattle.tailnet_laws.proofs.polls.machines_are_online_by_polls.Goals as goal

pub returns : goal.returns
returns c = record {
  opened = λ settings rows moment count es legal. replay_online (opening settings rows moment) es (opening_online settings rows moment);
  stays = λ s count es legal held. replay_online s es held;
}
