use Rattle.net_addr.proofs.TextLemmas.{addr_text-injective}
use Rattle.net_addr.proofs.laws.addr_texts_differ.Goals as goal

pub returns : goal.returns
returns c = record { differ = addr_text-injective }
