use Rattle.wire_write.proofs.TokenLemmas.{opened, next}
use Rattle.wire_write.specs.Nodes.{node_data}
use Rattle.wire_write.proofs.node.NodeRowTokenForm.write_json.Goals as goal

pub returns : goal.returns
unfolding node_data
returns c = record { adds = opened _ c.in_ok-begin_object.ensures.adds (next _ _ c.in_ok-write_member.ensures.adds (next _ _ c.in_ok-write_member-2.ensures.adds (next _ _ c.in_ok-write_member-3.ensures.adds (next _ _ c.in_ok-write_member-4.ensures.adds (next _ _ c.in_ok-write_member-5.ensures.adds (next _ _ c.in_ok-write_member-6.ensures.adds (c.in_ok-write_keyed.ensures.adds))))))) }
