use Rattle.net_rows.proofs.Sounds.{no_damage}
use Rattle.tailnet_laws.proofs.Numbers.{opening_numbered, session_numbered}
use Rattle.tailnet_laws.proofs.numbering.numbers_run.Goals as goal

pub returns : goal.returns
returns c = record {
  opened = λ settings rows moment count es handle hold sound legal. opening_numbered settings rows moment count es handle hold (no_damage rows sound) legal;
  session = λ s count es k x hold sound force sessions legal found.
      session_numbered s count es k x (record { settings = hold; rows = no_damage s.rows sound; policy = force }) sessions legal found;
}
