use Rattle.tail_base.proofs.KeyLemmas.{key_text-injective}
use Rattle.tail_base.proofs.laws.key_texts_differ.Goals as goal

pub returns : goal.returns
returns c = record { differ = key_text-injective }
