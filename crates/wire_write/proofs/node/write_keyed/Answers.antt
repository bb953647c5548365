use Rattle.wire_write.proofs.TokenLemmas.{next}
use Rattle.wire_write.proofs.node.write_keyed.Goals as goal

pub returns : goal.returns
returns c = record { adds = next _ _ c.in_ok-write_host.ensures.adds (next _ _ c.in_ok-write_member.ensures.adds (next _ _ c.in_ok-write_member-2.ensures.adds (next _ _ c.in_ok-write_member-3.ensures.adds (next _ _ c.in_ok-write_member-4.ensures.adds (c.in_ok-write_named.ensures.adds))))) }
