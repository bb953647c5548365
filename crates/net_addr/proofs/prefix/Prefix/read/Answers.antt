use Rattle.net_addr.proofs.PrefixLemmas.{prefix_means}
use Rattle.net_addr.proofs.prefix.Prefix.read.Goals as goal

pub returns-clause-meaning : goal.returns-clause-meaning
returns-clause-meaning c = prefix_means c.args.text.now c.prefix_of_text.result c.prefix_of_text.ensures.value
