use Rattle.std.proofs.lemmas.Result.{IfOk-weaker}
use Rattle.tail_base.proofs.LabelLemmas.{label_means}
use Rattle.tail_base.proofs.label.Label.read.Goals as goal

pub returns-clause-meaning : goal.returns-clause-meaning
returns-clause-meaning c = IfOk-weaker c.label_of.result _ _ (label_means c.args.text.now) c.label_of.ensures.value
