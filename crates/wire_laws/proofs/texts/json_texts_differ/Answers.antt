use Rattle.wire_laws.proofs.TreeLemmas.{texts_tell_trees}
use Rattle.wire_laws.proofs.texts.json_texts_differ.Goals as goal

pub returns : goal.returns
returns c = record { differ = texts_tell_trees }
