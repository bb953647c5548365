use Rattle.std.proofs.lemmas.Result.{IfOk-weaker}
use Rattle.tail_base.proofs.TagLemmas.{tag_means}
use Rattle.tail_base.proofs.tag.Tag.read.Goals as goal

pub returns-clause-meaning : goal.returns-clause-meaning
returns-clause-meaning c = IfOk-weaker c.tag_of.result _ _ (tag_means c.args.text.now) c.tag_of.ensures.value
