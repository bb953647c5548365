use Rattle.net_addr.proofs.BlockLemmas.{overlap_means}
use Rattle.net_addr.proofs.prefix.Prefix.overlaps.Goals as goal

pub returns-clause-meaning : goal.returns-clause-meaning
returns-clause-meaning c = overlap_means c.overlap.result c.args.self.now c.args.other.now c.overlap.ensures.value
