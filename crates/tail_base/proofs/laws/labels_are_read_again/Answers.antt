use Rattle.tail_base.proofs.LabelLemmas.{label_again}
use Rattle.tail_base.proofs.laws.labels_are_read_again.Goals as goal

pub returns : goal.returns
returns c = record { read_again = label_again }
