use Rattle.tail_base.proofs.LoginLemmas.{login_again}
use Rattle.tail_base.proofs.laws.logins_are_read_again.Goals as goal

pub returns : goal.returns
returns c = record { read_again = login_again }
