use Rattle.wire_write.proofs.TokenLemmas.{then, opened, next, last}
use Rattle.wire_write.proofs.node.write_host.Goals as goal

pub returns : goal.returns
returns c = record { adds = then c.in_ok-write_name.ensures.adds (opened _ c.in_ok-begin_object.ensures.adds (next _ _ c.in_ok-write_member.ensures.adds (last c.in_ok-end_object.ensures.adds))) }
