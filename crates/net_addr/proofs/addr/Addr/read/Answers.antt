use Rattle.net_addr.proofs.AddrLemmas.{addr_means}
use Rattle.net_addr.proofs.addr.Addr.read.Goals as goal

pub returns-clause-meaning : goal.returns-clause-meaning
returns-clause-meaning c = addr_means c.args.text.now c.addr_of_text.result c.addr_of_text.ensures.value
