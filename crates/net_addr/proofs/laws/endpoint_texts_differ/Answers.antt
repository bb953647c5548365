use Rattle.net_addr.proofs.TextLemmas.{endpoint_text-injective}
use Rattle.net_addr.proofs.laws.endpoint_texts_differ.Goals as goal

pub returns : goal.returns
returns c = record { differ = endpoint_text-injective }
