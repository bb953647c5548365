use Rattle.wire_write.proofs.TokenLemmas.{then}
use Rattle.wire_write.proofs.node.write_stable_id.Goals as goal

pub returns : goal.returns
returns c = record { adds = then c.in_ok-write_name.ensures.adds c.in_ok-write_stable_text.ensures.adds }
