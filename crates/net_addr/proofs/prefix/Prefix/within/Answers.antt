use Rattle.net_addr.proofs.BlockLemmas.{within_means}
use Rattle.net_addr.proofs.prefix.Prefix.within.Goals as goal

pub returns-clause-meaning : goal.returns-clause-meaning
returns-clause-meaning c = within_means c.is_within.result c.args.self.now c.args.outer.now c.is_within.ensures.value
