use Rattle.net_addr.proofs.SpelledLemmas.{moment_means}
use Rattle.net_addr.proofs.moment.Moment.read.Goals as goal

pub returns-clause-meaning : goal.returns-clause-meaning
returns-clause-meaning c = moment_means c.args.text.now c.moment_of_text.result c.moment_of_text.ensures.value
