use Rattle.tailnet_laws.proofs.Workers.{opened_leave, replay_leaves}
use Rattle.tailnet_laws.proofs.polls.waiting_polls_leave_a_worker.Goals as goal

pub returns : goal.returns
returns c = record {
  opened = λ settings rows moment count es legal. opened_leave settings rows moment es;
  stays = λ s count es legal held. replay_leaves s es held;
}
