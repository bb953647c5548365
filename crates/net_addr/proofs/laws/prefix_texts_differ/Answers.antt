use Rattle.net_addr.proofs.TextLemmas.{prefix_text-injective}
use Rattle.net_addr.proofs.laws.prefix_texts_differ.Goals as goal

pub returns : goal.returns
returns c = record { differ = prefix_text-injective }
