use Rattle.std.proofs.lemmas.Result.{IfOk-weaker}
use Rattle.net_addr.proofs.MomentLemmas.{moment_again}
use Rattle.net_addr.proofs.moment.Moment.write.Goals as goal

pub returns-clause-read_again : goal.returns-clause-read_again
returns-clause-read_again c = IfOk-weaker c.moment_text.result _ _ (λ text is. moment_again c.args.self.now c.moment_text.ensures.moment text is) c.moment_text.ensures.value
