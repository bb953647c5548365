use Rattle.wire_write.proofs.TokenLemmas.{next, last}
use Rattle.wire_write.proofs.node.write_named.Goals as goal

pub returns : goal.returns
returns c = record { adds = next _ _ c.in_ok-write_member.ensures.adds (next _ _ c.in_ok-write_member-2.ensures.adds (next _ _ c.in_ok-write_member-3.ensures.adds (next _ _ c.in_ok-write_stable_id.ensures.adds (next _ _ c.in_ok-write_member-4.ensures.adds (next _ _ c.in_ok-write_member-5.ensures.adds (last c.in_ok-end_object.ensures.adds)))))) }
