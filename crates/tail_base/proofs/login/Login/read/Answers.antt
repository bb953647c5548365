use Rattle.std.proofs.lemmas.Result.{IfOk-weaker}
use Rattle.tail_base.proofs.LoginLemmas.{login_means}
use Rattle.tail_base.proofs.login.Login.read.Goals as goal

pub returns-clause-meaning : goal.returns-clause-meaning
returns-clause-meaning c = IfOk-weaker c.login_of.result _ _ (login_means c.args.text.now) c.login_of.ensures.value
