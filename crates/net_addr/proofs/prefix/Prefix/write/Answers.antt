use Rattle.std.proofs.lemmas.Result.{IfOk-weaker}
use Rattle.net_addr.proofs.PrefixLemmas.{prefix_again}
use Rattle.net_addr.proofs.prefix.Prefix.write.Goals as goal

pub returns-clause-read_again : goal.returns-clause-read_again
returns-clause-read_again c = IfOk-weaker c.prefix_text.result _ _ (λ text is. prefix_again c.args.self.now c.prefix_text.ensures.block text is) c.prefix_text.ensures.value
