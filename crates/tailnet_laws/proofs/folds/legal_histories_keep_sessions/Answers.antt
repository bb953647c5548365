use Rattle.net_rows.proofs.Sounds.{no_damage}
use Rattle.tailnet_desk.specs.Sessions.{sent_to}
use Rattle.tailnet_laws.proofs.Following.{legal_kept, opening_kept}
use Rattle.tailnet_desk.proofs.SessionRules.{sent_held}
use Rattle.tailnet_laws.proofs.folds.legal_histories_keep_sessions.Goals as goal

pub returns : goal.returns
returns c = record {
  sessions = λ s count es hold sound force sessions legal.
      (legal_kept s count es (sent_to s.sessions) (record { settings = hold; rows = no_damage s.rows sound; policy = force }) (record { sessions = sessions; held = sent_held s sessions }) legal).sessions;
  held = λ s views count es hold sound force sessions held legal.
      (legal_kept s count es views (record { settings = hold; rows = no_damage s.rows sound; policy = force }) (record { sessions = sessions; held = held }) legal).held;
  opened = λ settings rows moment. (opening_kept settings rows moment).sessions;
}
