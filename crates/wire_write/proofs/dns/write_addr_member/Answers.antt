use Rattle.wire_write.proofs.TokenLemmas.{then}
use Rattle.wire_write.proofs.dns.write_addr_member.Goals as goal

pub returns : goal.returns
returns c = record { adds = then c.in_ok-write_name.ensures.adds c.in_ok-write_addr.ensures.adds }
