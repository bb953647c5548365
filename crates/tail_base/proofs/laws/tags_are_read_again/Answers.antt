use Rattle.tail_base.proofs.TagLemmas.{tag_again}
use Rattle.tail_base.proofs.laws.tags_are_read_again.Goals as goal

pub returns : goal.returns
returns c = record { read_again = tag_again }
