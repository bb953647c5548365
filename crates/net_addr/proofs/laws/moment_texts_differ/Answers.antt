use Rattle.net_addr.proofs.MomentLemmas.{moment_text-injective}
use Rattle.net_addr.proofs.laws.moment_texts_differ.Goals as goal

pub returns : goal.returns
returns c = record { differ = moment_text-injective }
