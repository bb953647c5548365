use Rattle.net_rows.proofs.Sounds.{no_damage}
use Rattle.tailnet_desk.specs.Sessions.{sent_to}
use Rattle.tailnet_laws.proofs.Following.{legal_followed, opening_followed}
use Rattle.tailnet_desk.proofs.SessionRules.{sent_held}
use Rattle.tailnet_laws.proofs.folds.clients_fold_fresh_maps.Goals as goal

pub returns : goal.returns
returns c = record {
  held = λ s views count es hold sound force sessions held legal.
      legal_followed s count es views (record { settings = hold; rows = no_damage s.rows sound; policy = force }) (record { sessions = sessions; held = held }) legal;
  sent = λ s count es hold sound force sessions legal.
      legal_followed s count es (sent_to s.sessions) (record { settings = hold; rows = no_damage s.rows sound; policy = force }) (record { sessions = sessions; held = sent_held s sessions }) legal;
  opened = λ settings rows moment count es hold sound legal. opening_followed settings rows moment count es hold (no_damage rows sound) legal;
}
