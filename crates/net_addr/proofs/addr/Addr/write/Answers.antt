use Rattle.std.proofs.lemmas.Result.{IfOk-weaker}
use Rattle.net_addr.proofs.PrefixLemmas.{addr_again}
use Rattle.net_addr.proofs.addr.Addr.write.Goals as goal

pub returns-clause-read_again : goal.returns-clause-read_again
returns-clause-read_again c = IfOk-weaker c.addr_text.result _ _ (λ text is. addr_again c.args.self.now c.addr_text.ensures.in_family text is) c.addr_text.ensures.value
